pub mod Times
pub mod Settings
pub mod Types
pub mod RuleRows
