pub mod Room
pub mod Determined
pub mod Recorded
pub mod Refused
