mod Tagging
mod Units
mod Saying
mod Clausing
