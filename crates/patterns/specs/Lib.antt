pub mod Bonuses
