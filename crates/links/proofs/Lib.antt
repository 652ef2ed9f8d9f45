pub mod Lanes
pub mod Passing
pub mod Fronts
pub mod Slots
pub mod Tabled
pub mod InOrder
