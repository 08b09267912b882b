pub mod Numbers
pub mod Tables
pub mod EdgeByEdge
pub mod Ranges
