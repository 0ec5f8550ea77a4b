pub mod Spelling
pub mod Bytes
pub mod Naming
