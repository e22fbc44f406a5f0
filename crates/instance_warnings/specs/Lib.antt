pub mod Breaks
pub mod Reached
pub mod Odd
pub mod Warnings
