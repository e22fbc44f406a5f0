pub mod Heads
pub mod TakenBreaks
