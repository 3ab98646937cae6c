pub mod Orders
pub mod Ties
pub mod Chain
pub mod Laws
