pub mod RowFaults
pub mod FaultText
pub mod Run
pub mod Working
pub mod Costed
pub mod Cover
pub mod Counted
