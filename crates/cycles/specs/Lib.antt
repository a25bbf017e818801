pub mod Search
pub mod Passes
pub mod Needs
pub mod Promise
pub mod Work
