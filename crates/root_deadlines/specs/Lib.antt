pub mod Indices
pub mod Bits
pub mod Lanes
pub mod Sooner
