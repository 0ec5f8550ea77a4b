pub mod Answers
pub mod Calls
pub mod Facts
pub mod Flat
pub mod Law
pub mod Layers
pub mod Records
pub mod Served
