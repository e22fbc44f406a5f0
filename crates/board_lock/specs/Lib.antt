pub mod Best
pub mod Locking
pub mod Passes
pub mod Roots
pub mod Shut
pub mod Turns
