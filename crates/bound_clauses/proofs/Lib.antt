pub mod Whole
pub mod Merging
pub mod Comparing
pub mod Readings
pub mod Pairs
pub mod Implied
pub mod Reached
pub mod Decided
