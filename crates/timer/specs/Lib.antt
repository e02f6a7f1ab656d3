pub mod Parts
pub mod Between
pub mod Views
pub mod Kinds
pub mod Calls
