pub mod View
pub mod Lanes
pub mod Sound
pub mod Slots
pub mod Order
