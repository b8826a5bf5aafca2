pub mod Leads
pub mod Loads
pub mod Numbers
pub mod Tables
pub mod Walks
pub mod Unread
