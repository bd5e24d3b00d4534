pub mod Manager
pub mod Calls
