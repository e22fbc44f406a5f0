pub mod Common
pub mod Beginnings
pub mod Additions
