pub mod Kinds
pub mod Definitions
pub mod Commands
pub mod Shapes
