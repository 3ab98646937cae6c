pub mod Stack
pub mod Jobs
pub mod Proposition
