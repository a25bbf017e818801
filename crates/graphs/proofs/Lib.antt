-- The laws of graphs, loops, lightest sets, components and the refusal table.
pub mod Lists
pub mod Turns
pub mod Walks
pub mod Loops
pub mod Lightest
pub mod Reach
pub mod InPlace
pub mod Gathering
pub mod Parts
pub mod Lowest
pub mod Components
pub mod InOrder
pub mod Whole
pub mod Coming
pub mod Tables
