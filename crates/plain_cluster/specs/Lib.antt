pub mod Entries
pub mod RowParts
pub mod RowsParts
pub mod Queues
pub mod Repricing
pub mod PlainParts
