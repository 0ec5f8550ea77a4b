pub mod Stops
pub mod Layers
pub mod Codes
pub mod Cases
