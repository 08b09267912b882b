pub mod Ranks
pub mod Lane
pub mod Renewing
pub mod UnitOrder
pub mod KeptRanks
pub mod Repricing
pub mod Laws
