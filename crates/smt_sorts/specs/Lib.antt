pub mod Names
pub mod Listed
pub mod Leveled
pub mod Workshop
