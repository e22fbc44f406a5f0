pub mod Worked
pub mod Cheapest
