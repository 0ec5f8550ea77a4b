pub mod Checked
pub mod Copied
pub mod Counts
pub mod Jobs
