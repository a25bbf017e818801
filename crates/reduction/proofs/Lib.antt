-- The laws of the reduction.
pub mod Model
pub mod Worked
pub mod Unique
pub mod Useless
pub mod Removal
pub mod Folding
pub mod States
pub mod Next
pub mod Runs
pub mod Sound
pub mod Trials
pub mod Sides
pub mod Stores
pub mod Choices
pub mod Logs
pub mod Answers
