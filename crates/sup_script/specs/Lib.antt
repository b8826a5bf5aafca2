pub mod Running
pub mod Starter
