pub mod Unfit
pub mod Parts
pub mod Fitted
pub mod Walk
pub mod Tables
pub mod Rows
