pub mod Timings
pub mod Watchdogs
pub mod Readouts
pub mod Texts
