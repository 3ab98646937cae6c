pub mod Tries
pub mod Goals
pub mod Asks
pub mod Points
pub mod Checked
pub mod Assumed
pub mod Under
