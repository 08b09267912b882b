pub mod OneLane
pub mod WindowStates
pub mod Views
pub mod Passing
pub mod Flags
pub mod Steps
