pub mod Calling
pub mod Parts
