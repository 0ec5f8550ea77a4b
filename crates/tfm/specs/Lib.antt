pub mod Files
pub mod Outlines
pub mod Widths
pub mod Meaning
pub mod Making
pub mod Unlike
pub mod Listing
pub mod Laws
