pub mod Reports
pub mod Causes
