pub mod Again
mod Laid
pub mod Owned
mod OwnExamples
mod PartExamples
mod Left
pub mod Flags
pub mod Stored
mod Dividing
mod Operations
pub mod Applied
pub mod Stacks
pub mod Numerals
pub mod Grow
pub mod Names
pub mod Giving
pub mod Moves
pub mod Heads
pub mod Runs
pub mod Lets
mod Puts
pub mod Copies
pub mod Bodied
pub mod PartCopies
pub mod Named
mod FiledLemmas
mod Divisible
