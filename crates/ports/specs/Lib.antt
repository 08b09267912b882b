-- What contracts on sources and sinks cite.
pub mod Devices
pub mod Pieces
pub mod Lines
pub mod Judging
pub mod Seeking
pub mod Feeds
pub mod LineFeed
pub mod NextLine
