pub mod Recalled
pub mod Unique
pub mod Machines
