pub mod Run
pub mod Branches
pub mod Grafted
pub mod Faults
pub mod Pins
