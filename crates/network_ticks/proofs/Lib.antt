pub mod Laws
pub mod Rest
