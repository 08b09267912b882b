mod SetupBuilt
mod SetupEdges
mod SetupFields
mod SetupOrdinary
mod SetupParts
mod SetupRows
mod SetupTimeRows
mod SetupTimes
mod SixTimes
pub mod Accepted
pub mod After
pub mod Aims
pub mod Alive
pub mod Ascending
pub mod Buckets
pub mod ByMembers
pub mod ByUnit
pub mod Choice
pub mod Chosen
pub mod ChosenLane
pub mod Enters
pub mod Entries
pub mod Gains
pub mod Greatest
pub mod HandMoves
pub mod Happens
pub mod Histories
pub mod InLane
pub mod Kept
pub mod KeptClusters
pub mod KeptLanes
pub mod KeyedFirst
pub mod Leaves
pub mod Lexical
pub mod Loads
pub mod MaskedOffers
pub mod Members
pub mod Moved
pub mod Offers
pub mod Orders
pub mod Parts
pub mod PickIsOne
pub mod Picks
pub mod PlaceOf
mod PlaceWhere
pub mod Placed
pub mod Precedes
pub mod Prefixes
pub mod Reaches
pub mod Refreshed
pub mod RefreshedBuckets
pub mod Refreshes
pub mod Runs
pub mod SetupLaws
pub mod SoundParts
mod StandsOn
pub mod StepsKeep
pub mod Takers
pub mod Turns
pub mod Unbound
pub mod UnitPriorities
pub mod Units
pub mod Usage
pub mod WholePlaces
pub mod Wholes
pub mod Windows
pub mod YardMoves
