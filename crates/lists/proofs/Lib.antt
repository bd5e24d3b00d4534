pub mod Basics
pub mod Tests
pub mod Any
pub mod Parts
pub mod Stores
