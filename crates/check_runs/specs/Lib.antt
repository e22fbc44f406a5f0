pub mod Words
pub mod Status
pub mod Recount
pub mod Verdict
pub mod Check
