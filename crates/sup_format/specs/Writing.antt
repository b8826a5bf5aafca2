-- What is written: the text of replies, those that wait for the writer, and what it took; and history texts line after line.
pub mod Replies
pub mod Sent
pub mod Waiting
pub mod HistoryTexts
