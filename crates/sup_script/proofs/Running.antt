-- Scripts and replays, line by line and as a whole.
pub mod Causing
pub mod Queues
pub mod LineByLine
pub mod Pieces
pub mod WholeRuns
pub mod Replaying
pub mod Journaling
pub mod WholeReplays
