pub mod Given
pub mod Building
pub mod Keys
pub mod Filling
pub mod Parts
pub mod WorkedOut
pub mod Values
pub mod Modelled
