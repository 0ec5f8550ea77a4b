pub mod Documents
pub mod Kept
pub mod Outputs
pub mod Tracks
pub mod Promised
pub mod Again
pub mod Law
