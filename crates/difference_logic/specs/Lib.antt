pub mod Edges
pub mod Differences
pub mod Clauses
