pub mod Careful
