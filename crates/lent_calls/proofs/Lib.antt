pub mod Gathered
pub mod Ticks
