pub mod AsBox
pub mod Written
pub mod Opened
pub mod Staying
