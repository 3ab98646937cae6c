pub mod LevelCommands
pub mod PieceLemmas
pub mod FrameLemmas
pub mod Steps
pub mod Reach
pub mod StackLemmas
pub mod LawLemmas
pub mod SortSteps
pub mod DeclareSteps
pub mod GainLemmas
pub mod TermSteps
pub mod ParameterSteps
pub mod BackLemmas
pub mod AssumeLemmas
mod RoomSteps
pub mod SortLemmas
pub mod FactLemmas
pub mod LevelSteps
mod KeptSteps
pub mod SeenLemmas
pub mod CopyLemmas
pub mod ThinLemmas
pub mod RaiseLemmas
mod LawExamples
