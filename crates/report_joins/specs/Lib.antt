pub mod Numbers
pub mod Joined
pub mod Faults
pub mod Runs
