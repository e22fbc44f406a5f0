pub mod Common
pub mod RowDuties
pub mod SlotSums
pub mod Starts
pub mod Steps
pub mod Numbers
pub mod Numbered
pub mod Appending
