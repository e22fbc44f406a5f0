pub mod Common
pub mod Chosen
pub mod Lawful
pub mod Sound
pub mod Few
pub mod Enough
pub mod Stepped
pub mod Solved
