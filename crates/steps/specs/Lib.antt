pub mod Steps
pub mod Decision
pub mod After
