pub mod Along
pub mod Days
