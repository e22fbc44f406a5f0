pub mod Common
pub mod Below
pub mod Accepting
pub mod Joins
pub mod Reading
pub mod Sized
