pub mod Folds
pub mod Lines
pub mod Checked
pub mod Progress
pub mod Told
