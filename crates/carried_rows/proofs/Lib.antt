pub mod Common
pub mod Fitting
pub mod Legal
pub mod RowOrder
pub mod Steps
