pub mod Ahead
pub mod Marks
pub mod Lets
pub mod Free
pub mod Heads
