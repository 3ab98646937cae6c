pub mod Carried
pub mod Deciding
pub mod Free
pub mod Lists
pub mod Numbers
pub mod Ranges
pub mod SameStack
pub mod Showing
pub mod Steps
pub mod Units
mod RefusalShown
