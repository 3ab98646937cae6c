pub mod State
pub mod Trail
pub mod Sums
