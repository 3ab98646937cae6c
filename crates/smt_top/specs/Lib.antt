pub mod Ledgers
pub mod Progress
pub mod Ended
