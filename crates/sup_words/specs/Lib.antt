pub mod Grammar
pub mod Orders
pub mod Ranges
pub mod Settings
pub mod Shown
pub mod TextLaws
