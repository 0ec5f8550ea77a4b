pub mod Counts
pub mod Courses
pub mod Pages
pub mod Rooms
pub mod Same
pub mod Words
