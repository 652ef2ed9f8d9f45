pub mod Rounds
pub mod Tables
pub mod Entries
pub mod Over
