mod Feedless
pub mod Common
pub mod Notes
