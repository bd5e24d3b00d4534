pub mod Handing
