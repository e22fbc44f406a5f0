pub mod Forced
pub mod Advised
pub mod Hearing
pub mod Solutions
pub mod Subgradient
pub mod Chosen
pub mod Rounds
