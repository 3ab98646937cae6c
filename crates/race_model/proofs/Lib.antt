pub mod Sound
pub mod LevelLemmas
mod Examples
