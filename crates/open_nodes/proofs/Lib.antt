pub mod Common
pub mod Orders
pub mod Heaps
