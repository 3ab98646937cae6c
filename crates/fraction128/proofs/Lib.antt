pub mod Halving
pub mod Steps
pub mod FloorOrder
pub mod Smallness
pub mod DigitLemmas
pub mod Ring
pub mod RingEquations
pub mod WholeNumbers
pub mod Divisors
pub mod Integers
pub mod LowestTerms
pub mod Comparisons
pub mod RationalRing
pub mod RationalOrder
pub mod ListedAnswers
pub mod ExactSteps
pub mod FieldEquations
pub mod FieldLaws
pub mod Divisions
mod NumberMeaningExamples
pub mod RowValue
pub mod SumValues
mod GridMeaningExamples
pub mod Places
