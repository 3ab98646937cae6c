mod WordBytes
mod WordForms
mod WordExamples
mod PartSteps
mod PartRuns
mod PartLaws
mod Shorter
mod Runs
mod Answers
mod Settled
mod Scans
mod Unsettled
mod Scanned
mod Unreads
mod Skipped
pub mod Skipping
