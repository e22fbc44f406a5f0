pub mod Words
pub mod Status
pub mod Texts
pub mod Reading
pub mod Runs
pub mod Running
pub mod Complete
