pub mod Common
pub mod OneMore
pub mod Descents
pub mod Tries
pub mod Evener
