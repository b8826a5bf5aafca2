-- Whole scripts and replays, and what a fault in them says.
pub mod Stops
pub mod Queues
pub mod Script
pub mod Runs
pub mod Answering
pub mod Pieces
pub mod Replays
pub mod Answers
pub mod Journals
