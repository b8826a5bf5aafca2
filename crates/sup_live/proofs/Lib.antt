pub mod Added
pub mod Batched
pub mod Joining
pub mod Listing
pub mod Ending
pub mod Telling
pub mod Led
