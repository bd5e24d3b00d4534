pub mod Records
pub mod Wrote
pub mod Tray
