pub mod BoundLemmas
pub mod GrowLemmas
pub mod TrailLemmas
pub mod WrittenSums
pub mod Meaning
pub mod Leaves
pub mod Free
pub mod WatchLemmas
