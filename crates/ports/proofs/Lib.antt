-- Lemmas of this crate.
pub mod Lists
pub mod KnownBytes
pub mod Newlines
pub mod Buffers
pub mod Answering
pub mod NextLines
pub mod ToldBytes
