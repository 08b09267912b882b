pub mod Rule
pub mod Values
