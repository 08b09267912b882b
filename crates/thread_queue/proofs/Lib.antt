pub mod First
pub mod Members
pub mod Settled
pub mod Stays
pub mod Chosen
