pub mod Counting
pub mod Bitwise
pub mod Listed
