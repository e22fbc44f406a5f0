pub mod Common
pub mod Causes
pub mod Values
pub mod PlanFloor
pub mod Splitting
pub mod Entries
pub mod BestLists
pub mod BySlots
mod Kept
mod KeptTables
