pub mod Sums
pub mod Pairs
pub mod Turning
pub mod Rows
