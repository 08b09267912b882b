pub mod Acting
pub mod Changes
pub mod Laws
pub mod Machines
pub mod Making
pub mod Parts
pub mod Yards
