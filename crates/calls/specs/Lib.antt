pub mod Histories
pub mod Computed
