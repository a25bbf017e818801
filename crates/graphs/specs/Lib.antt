pub mod Graph
pub mod Light
pub mod Components
pub mod Coming
pub mod Refusals
pub mod Work
