pub mod Each
pub mod Shares
pub mod Own
