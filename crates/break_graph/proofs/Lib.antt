pub mod Common
pub mod Marks
pub mod Elements
pub mod Flat
pub mod Nodes
pub mod Leading
pub mod Fronts
pub mod Embedding
