-- The laws of node words, of the node room and of the memo room.
pub mod Packings
pub mod Slots
pub mod Clearing
pub mod Standing
pub mod Making
pub mod Ending
pub mod Splitting
pub mod Walking
pub mod Remembering
pub mod Ordering
pub mod Composing
pub mod Applying
pub mod Counting
pub mod Listing
