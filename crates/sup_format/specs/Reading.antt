-- What is read: words, lines, first lines, history texts, and whole texts.
pub mod Words
pub mod Tokens
pub mod Lines
pub mod Headers
pub mod Texts
pub mod History
pub mod HistoryReading
pub mod Streams
