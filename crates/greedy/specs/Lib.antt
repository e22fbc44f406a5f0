pub mod Bounds
pub mod Drafts
pub mod Greedy
pub mod Kept
pub mod Sizes
pub mod Values
