pub mod Turns
pub mod Said
