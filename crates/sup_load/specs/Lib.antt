pub mod Answered
pub mod Lines
pub mod Loads
pub mod Statuses
pub mod Reports
