pub mod Pools
pub mod State
