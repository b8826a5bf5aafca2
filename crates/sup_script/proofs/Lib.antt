pub mod Running
pub mod Gaps
