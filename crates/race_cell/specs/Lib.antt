pub mod Actions
pub mod Rules
pub mod Calls
pub mod Passes
pub mod Laws
