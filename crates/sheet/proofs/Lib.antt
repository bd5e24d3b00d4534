pub mod Writes
pub mod WriteThenRead
pub mod ReadThenWrite
pub mod SheetBytes
pub mod Pointing
pub mod Theorems
