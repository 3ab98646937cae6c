pub mod Base
pub mod Race
pub mod Laws
pub mod Shelves
