pub mod Selecting
pub mod Expanding
