pub mod Stored
pub mod Calls
pub mod Adds
pub mod Filed
