pub mod OpenLists
pub mod Left
pub mod Parts
pub mod TokenBytes
pub mod ReadAll
pub mod LookUps
pub mod OptionForms
pub mod Judged
pub mod FunctionForm
pub mod SortForms
mod NamingSteps
