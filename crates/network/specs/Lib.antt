pub mod State
pub mod Replies
pub mod Rules
pub mod Moving
pub mod Answers
pub mod BusOff
pub mod Rest
pub mod Parts
