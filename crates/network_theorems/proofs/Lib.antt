pub mod Moves
pub mod Kept
pub mod Theorems
pub mod Parts
pub mod Requests
pub mod BusOffs
