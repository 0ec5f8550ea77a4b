pub mod Pairs
pub mod Marks
pub mod Pages
pub mod Files
pub mod Writing
pub mod Limits
