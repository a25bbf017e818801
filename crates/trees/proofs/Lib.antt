-- The laws of decision trees, of the need and of the lightest set out of a tree.
pub mod Canonical
pub mod Joins
pub mod Needs
pub mod Bests
pub mod Branches
