pub mod Descending
pub mod Evening
