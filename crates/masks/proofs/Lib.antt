-- The laws of sets as numbers.
pub mod Tests
pub mod Bits
pub mod PutCut
pub mod Lowest
pub mod Nexts
pub mod Listing
pub mod Those
pub mod Weights
pub mod Counts
pub mod Words
pub mod Numbers
