pub mod Fields
pub mod Document
pub mod Departures
pub mod Reading
pub mod Canonical
pub mod RefusalText
pub mod Generated
