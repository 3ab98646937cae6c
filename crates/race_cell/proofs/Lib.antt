pub mod Lists
pub mod Keeps
pub mod May
pub mod Told
pub mod Opens
pub mod Ends
pub mod Legal
pub mod Winners
