pub mod Bytes
pub mod Lengths
pub mod FixWords
pub mod Match
