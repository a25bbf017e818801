-- The laws of block files.
pub mod Numbers
pub mod Fills
pub mod LowFirst
pub mod Spelling
pub mod Pieces
pub mod Tables
pub mod Layouts
pub mod Unique
pub mod RoundTrip
pub mod Worked
pub mod Useless
