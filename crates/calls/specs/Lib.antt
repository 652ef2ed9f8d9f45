pub mod Memory
pub mod Lanes
pub mod Plans
pub mod Looking
pub mod Calls
pub mod Preparing
pub mod Closing
