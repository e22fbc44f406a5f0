pub mod Common
pub mod Counting
pub mod UsedMore
pub mod BreaksMore
