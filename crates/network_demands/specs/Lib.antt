pub mod Words
pub mod Own
pub mod Promises
pub mod ComesUp
pub mod Listening
