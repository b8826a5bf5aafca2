-- What words, lines and texts are read as.
pub mod Numbers
pub mod Cuts
pub mod Commands
pub mod Entries
pub mod FeedCounts
pub mod Histories
pub mod WholeTexts
pub mod OneValue
pub mod HistoryLines
pub mod OneCommand
pub mod Firsts
pub mod WholeLines
pub mod ReadAgain
pub mod Streams
