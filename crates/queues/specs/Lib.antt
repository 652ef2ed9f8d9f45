pub mod View
pub mod Positions
pub mod Places
