pub mod ByCall
pub mod Counts
pub mod ByKind
