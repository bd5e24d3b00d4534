pub mod Splitting
pub mod Events
pub mod Lines
pub mod Trace
