pub mod Rows
pub mod Examples
pub mod Inputs
pub mod Runs
