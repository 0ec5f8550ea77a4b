pub mod Onward
pub mod Turning
pub mod Looping
pub mod Good
pub mod OneCharacter
