pub mod Spelling
pub mod Batches
pub mod Reading
pub mod FaultText
pub mod Fields
