pub mod Guides
pub mod Stands
pub mod Steps
