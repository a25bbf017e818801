pub mod Rooms
pub mod Packing
pub mod Codes
pub mod Order
pub mod Promise
pub mod Work
