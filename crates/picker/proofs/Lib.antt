-- The laws of the pick.
pub mod Picks
pub mod Model
pub mod Unique
pub mod Computing
pub mod Blocks
pub mod Useless
pub mod Errors
pub mod Notes
pub mod Choosing
pub mod Walking
pub mod OneComponent
pub mod EachComponent
pub mod Reducing
pub mod Lending
