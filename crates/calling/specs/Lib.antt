pub mod Returned
pub mod Lived
