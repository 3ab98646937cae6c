pub mod Both
pub mod FrontAndBack
mod Constants
mod NamesRefused
mod VariableTrees
pub mod GrownTrees
pub mod StoredTrees
pub mod SortLaw
pub mod Tables
pub mod ValueLaw
pub mod SexpLaw
pub mod SExprLaw
pub mod SameValue
pub mod SameTree
pub mod JudgeLaw
pub mod BodyLaw
pub mod EnvironmentLaw
pub mod Written
mod TermLawsExamples
pub mod JudgedSteps
pub mod Keeping
pub mod FreshLaw
mod Questions
mod JudgedAgain
pub mod Among
mod PlacesLaw
mod Signatures
mod StepLogic
mod SortLawsJudgements
mod SortLawsTermsLaw
mod SortLawsCommandsLaw
mod SortLawsStackLaw
mod OperationLaw
pub mod OrderLaw
pub mod BelowLaw
pub mod Included
pub mod FollowsLaw
pub mod Resolution
pub mod MoreTrees
pub mod ClauseLawsPartsLaw
pub mod LinearLaw
pub mod BoundLaw
pub mod RowLaw
pub mod DivisionLaw
mod ClauseLawsExamples
mod Propagation
pub mod Script
mod Refusals
mod Orders
mod Texts
mod Modes
mod Lines
mod Told
mod Kept
mod KindLaw
mod Journals
mod Numbers
mod Propositional
mod Reports
mod Ranges
mod DivisionRows
mod Divisions
mod Assumptions
mod Assumed
mod Asked
mod AssumedCommands
pub mod FlatLaw
pub mod Each
pub mod Shapes
mod LinearLawsJudgements
mod LinearLawsTermsLaw
mod LinearLawsCommandsLaw
mod LinearLawsStackLaw
mod LinearLawsPartsLaw
mod FormsLaw
mod Monad
mod Steps
mod Shape
mod Run
mod UseLemmas
mod AgainLemmas
mod FormLemmas
mod TodoLemmas
