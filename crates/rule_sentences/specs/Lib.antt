pub mod Clauses
pub mod Needs
