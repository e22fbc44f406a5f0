pub mod Words
pub mod Status
pub mod Texts
pub mod Runs
pub mod Reading
pub mod Running
pub mod Complete
