pub mod Words
pub mod Values
pub mod Options
pub mod Endings
pub mod Held
