pub mod Table
pub mod Notes
