pub mod LatestLemmas
pub mod Links
pub mod IndexLemmas
pub mod NodeLemmas
pub mod RowLemmas
pub mod Layers
pub mod StoreLemmas
pub mod PlaceLemmas
pub mod PartLemmas
mod SeekLemmas
mod Joining
mod Uniform
mod RoomLemmas
mod DivisorLemmas
