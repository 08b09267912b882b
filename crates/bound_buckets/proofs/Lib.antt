pub mod LanePriorities
pub mod Above
pub mod Units
