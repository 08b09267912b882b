pub mod Flags
pub mod Tens
pub mod InOrder
pub mod Earliest
pub mod Lowest
pub mod IndexedLanes
