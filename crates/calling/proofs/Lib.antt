pub mod Laws
pub mod ByTask
pub mod Lived
