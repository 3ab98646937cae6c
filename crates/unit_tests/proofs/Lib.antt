pub mod Sound
pub mod Stated
