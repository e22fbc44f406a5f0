pub mod Rests
pub mod Walks
pub mod Below
pub mod Passed
pub mod Judged
pub mod Tree
pub mod Floors
pub mod Batches
