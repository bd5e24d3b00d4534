pub mod Settings
pub mod Good
