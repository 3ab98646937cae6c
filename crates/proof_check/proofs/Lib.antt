pub mod Takings
pub mod Foldings
pub mod Refuting
pub mod Endings
pub mod Reporting
pub mod Judging
