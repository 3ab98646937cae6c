pub mod Found
pub mod Asserted
pub mod Whole
pub mod EqualitiesKept
pub mod ResolutionCodes
pub mod FarkasSums
pub mod Alone
