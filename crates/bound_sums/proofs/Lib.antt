pub mod Common
pub mod Sizes
pub mod Pairs
pub mod Priced
pub mod ShiftTerms
pub mod Uncut
pub mod Unseen
pub mod Keeping
