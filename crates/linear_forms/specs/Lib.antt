pub mod Sums
pub mod Scratch
pub mod Folding
pub mod Table
pub mod Entries
pub mod Differences
pub mod Multiples
