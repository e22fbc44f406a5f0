pub mod Common
pub mod Lists
pub mod Names
pub mod Readings
pub mod Texts
pub mod Sizes
pub mod Restated
pub mod ReadBack
pub mod Restored
pub mod Generation
mod Examples
