pub mod Wanted
pub mod Folder
pub mod Progress
