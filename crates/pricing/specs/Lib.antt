pub mod Values
pub mod Found
pub mod Days
pub mod Tables
pub mod Keeping
