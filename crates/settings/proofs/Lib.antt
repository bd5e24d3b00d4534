pub mod Laws
pub mod Good
