pub mod Fonts
pub mod Packets
pub mod Files
pub mod Cases
