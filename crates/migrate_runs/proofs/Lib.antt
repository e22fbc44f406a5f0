pub mod Common
pub mod Shorter
pub mod Counted
pub mod Carried
pub mod Migrated
pub mod Ending
