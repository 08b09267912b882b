pub mod Policy
pub mod Runs
pub mod Texts
pub mod Laws
pub mod Representation
