pub mod Walks
pub mod Shorts
