pub mod Differ
pub mod Openings
pub mod Same
pub mod SameFlat
pub mod Setups
pub mod Starving
pub mod Told
pub mod Whole
