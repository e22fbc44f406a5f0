pub mod Common
pub mod Grown
