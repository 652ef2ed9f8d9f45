pub mod Fields
pub mod Parts
pub mod Buffers
pub mod Trips
