mod OneMore
pub mod Common
pub mod Ones
