pub mod Flat
pub mod Graph
pub mod Building
