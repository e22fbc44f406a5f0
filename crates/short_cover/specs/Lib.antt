pub mod ShortSlots
pub mod LeastCovers
