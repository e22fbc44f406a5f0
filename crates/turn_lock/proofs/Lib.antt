pub mod Common
pub mod Closing
pub mod Histories
pub mod Seated
pub mod Steps
