pub mod Spelled
pub mod Told
pub mod Shelves
pub mod Tokens
pub mod Leaving
pub mod Seals
pub mod Held
pub mod Answers
