pub mod Digits
pub mod Scales
pub mod Pieces
pub mod Seek
pub mod Writes
