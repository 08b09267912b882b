pub mod Arena
pub mod Sound
pub mod Lends
