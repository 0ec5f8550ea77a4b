pub mod Sources
pub mod Rules
pub mod Steps
pub mod Lists
pub mod Ledgers
pub mod Histories
