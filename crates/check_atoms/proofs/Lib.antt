mod Adding
mod Sums
mod BoundLeaves
mod Rows
mod PartPlaces
mod TruthSorts
mod Integers
mod Stacks
mod Related
mod StackAtoms
mod WideDistinct
mod WideExamples
mod Refused
mod RefusedPair
mod RefusedLimit
mod PartNumbers
mod FirstAtoms
pub mod Sorting
pub mod StackAtomsIntegers
pub mod Marking
pub mod StackAtomsPlaces
pub mod Taking
mod RefusedPairs
mod Readable
mod ReadablePartsPlaces
mod AssertedTerms
