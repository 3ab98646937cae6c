pub mod Kept
pub mod Levels
