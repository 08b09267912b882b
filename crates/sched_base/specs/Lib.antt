pub mod Bucket
pub mod Facts
pub mod Limits
