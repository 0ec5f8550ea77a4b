pub mod Every
pub mod Loads
pub mod Names
