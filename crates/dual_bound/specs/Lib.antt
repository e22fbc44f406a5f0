pub mod Faults
pub mod Proved
pub mod Settling
pub mod Fixing
pub mod BestLists
pub mod KeptTables
pub mod Pricer
