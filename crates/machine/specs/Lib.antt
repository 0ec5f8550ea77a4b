pub mod Frames
pub mod Steps
pub mod Views
pub mod Runs
pub mod Acts
