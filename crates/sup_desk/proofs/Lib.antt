pub mod Answered
pub mod Stepped
pub mod Counted
pub mod Enrolling
pub mod Audited
pub mod Results
pub mod Queued
