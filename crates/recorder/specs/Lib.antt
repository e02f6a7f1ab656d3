pub mod Records
pub mod Recorders
