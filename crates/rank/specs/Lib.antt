pub mod Laid
pub mod Entries
pub mod Ranks
pub mod Adding
pub mod Lawfuls
pub mod Named
pub mod Held
