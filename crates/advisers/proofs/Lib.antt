pub mod Common
pub mod Forcing
pub mod PriceSizes
pub mod Searching
pub mod Passing
pub mod Choices
pub mod PriceSteps
