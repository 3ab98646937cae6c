pub mod OnceLemmas
pub mod Tying
pub mod Over
