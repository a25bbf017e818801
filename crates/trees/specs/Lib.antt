pub mod Need
pub mod Tree
pub mod Best
