pub mod Passes
pub mod Seats
pub mod Turning
