pub mod Entries
pub mod Grammar
