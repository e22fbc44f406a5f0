pub mod Written
pub mod Guarding
