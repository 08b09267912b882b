-- Runs: journals, histories of one place and of one actor, their interleaving, the worker rule, whole runs, and the load.
pub mod Journals
pub mod Histories
pub mod Hands
pub mod Interleaving
pub mod Worker
pub mod WholeRuns
pub mod LoadTrace
