-- What is written.
pub mod Written
pub mod Sending
