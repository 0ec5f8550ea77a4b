pub mod Fresh
pub mod Lines
pub mod Lists
pub mod Meanings
pub mod Places
