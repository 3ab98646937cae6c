pub mod Arguments
pub mod Values
pub mod Names
pub mod FormOf
pub mod Namings
