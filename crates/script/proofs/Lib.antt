pub mod Fronts
pub mod Nexts
pub mod Readings
