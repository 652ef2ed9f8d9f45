pub mod Upgrades
pub mod Spaces
pub mod Firings
pub mod States
pub mod Round
