pub mod Backwards
pub mod Steps
pub mod Copying
