pub mod Analysing
pub mod Learning
