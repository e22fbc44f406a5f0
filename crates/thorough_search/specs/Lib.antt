pub mod Searching
pub mod HeadSplits
