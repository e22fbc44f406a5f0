pub mod Common
pub mod Stretches
pub mod Prices
pub mod Windows
