pub mod Accounts
pub mod Endings
pub mod Exits
pub mod Holdings
pub mod Offices
pub mod WeighLaws
