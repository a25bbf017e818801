pub mod Rules
pub mod Promise
pub mod Work
pub mod Blocks
