pub mod Kept
pub mod Requests
pub mod BusOffs
pub mod Delays
pub mod Examples
