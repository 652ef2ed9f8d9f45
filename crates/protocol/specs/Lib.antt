pub mod Firings
pub mod Deeds
pub mod Rules
pub mod Machines
pub mod State
