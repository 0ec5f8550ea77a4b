pub mod Compose
pub mod Bearing
