pub mod Decision
pub mod Passing
pub mod Runs
pub mod Turned
pub mod Workers
