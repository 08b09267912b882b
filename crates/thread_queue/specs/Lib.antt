pub mod Item
pub mod KeyOrder
pub mod Queue
pub mod Laws
pub mod Uncounted
