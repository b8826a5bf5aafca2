pub mod Faults
pub mod Sessions
