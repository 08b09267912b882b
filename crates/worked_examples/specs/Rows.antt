-- Worked runs, each of which the definitions compute.
pub mod Run
pub mod Queues
pub mod Choices
pub mod Edges
