pub mod Refusals
pub mod Questions
pub mod Histories
pub mod Promise
pub mod Sequential
