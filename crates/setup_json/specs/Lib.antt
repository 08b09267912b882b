pub mod Laws
pub mod Numbers
pub mod Reads
pub mod Writes
