-- Laws that show that the definitions say what is meant, as statements.
pub mod Choice
pub mod Clusters
pub mod Steps
pub mod Picks
pub mod Kept
pub mod Offers
pub mod Aims
pub mod Sound
pub mod Counts
pub mod Orders
pub mod Units
pub mod Windows
pub mod Refreshing
pub mod Places
pub mod Loads
