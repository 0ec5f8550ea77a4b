pub mod Laid
pub mod Fonts
pub mod Chain
pub mod Legal
pub mod Pages
