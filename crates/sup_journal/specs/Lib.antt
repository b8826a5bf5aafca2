pub mod Records
pub mod Begun
pub mod Ends
pub mod Faults
pub mod Flushes
pub mod Openings
