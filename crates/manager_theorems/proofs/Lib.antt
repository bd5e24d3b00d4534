pub mod Careful
pub mod Sound
pub mod Counts
pub mod Requests
pub mod Places
