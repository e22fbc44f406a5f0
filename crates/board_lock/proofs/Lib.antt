pub mod Common
pub mod Bounded
pub mod Costs
mod Keeps
pub mod Shutting
pub mod Turned
