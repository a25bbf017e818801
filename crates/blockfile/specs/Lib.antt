pub mod Layout
pub mod Promise
