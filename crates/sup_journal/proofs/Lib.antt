pub mod Recording
pub mod Lines
pub mod Firsts
pub mod Openings
