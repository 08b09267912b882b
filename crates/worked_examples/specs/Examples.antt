-- Small examples of the definitions of runs and texts.
pub mod Logs
pub mod Merging
pub mod OneThread
pub mod Offering
pub mod Powers
pub mod Loads
pub mod Texts
pub mod Warps
pub mod WrongWindows
pub mod Refused
