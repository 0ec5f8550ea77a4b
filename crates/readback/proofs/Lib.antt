pub mod Stands
pub mod Commands
pub mod Leading
pub mod Pairs
pub mod Marks
pub mod Pages
pub mod Taken
