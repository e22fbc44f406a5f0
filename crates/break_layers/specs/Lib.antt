pub mod Layered
pub mod Rests
pub mod Windows
pub mod Ways
