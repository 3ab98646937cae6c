pub mod Endings
pub mod Outcome
pub mod Shown
pub mod Start
pub mod Causes
pub mod Racing
pub mod Import
