pub mod Foreign
pub mod Laws
pub mod Clearing
