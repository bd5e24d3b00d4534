pub mod Splits
pub mod EventLaws
pub mod Telling
pub mod Theorems
pub mod Blocks
pub mod Writes
