-- Texts: what is written for each value, and what each line reads as.
pub mod Pieces
pub mod Steps
pub mod Answers
pub mod Lines
pub mod SetupLines
pub mod Streams
