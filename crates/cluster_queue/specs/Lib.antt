pub mod Rows
pub mod Heaps
pub mod Moves
pub mod Refreshing
pub mod Filling
pub mod PricingAll
pub mod Queues
pub mod ClusterParts
