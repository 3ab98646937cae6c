pub mod Names
pub mod Flat
pub mod Appends
pub mod Models
