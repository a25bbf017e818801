-- The laws of the numbers that C gets.
pub mod Words
pub mod Steps
pub mod Unique
