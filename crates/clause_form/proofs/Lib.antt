pub mod NodeLaws
mod PartLemmas
pub mod Gathering
mod Putting
pub mod Hits
pub mod Falsified
pub mod Complete
pub mod Ternary
pub mod Forcing
pub mod More
pub mod Deciding
pub mod Renaming
pub mod Signs
pub mod TrueClauses
pub mod Over
mod Examples
pub mod WideTrue
pub mod WideOver
pub mod ApartClauses
