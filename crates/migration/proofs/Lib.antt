pub mod Scans
pub mod Movable
pub mod Best
pub mod Clusters
pub mod Among
