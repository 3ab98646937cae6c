pub mod State
pub mod Moved
pub mod Conflict
pub mod Run
pub mod Suspects
pub mod Law
pub mod TableRows
