pub mod Once
pub mod Ties
pub mod Laws
