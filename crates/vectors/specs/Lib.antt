pub mod Logging
pub mod Registers
pub mod Replies
pub mod Tallies
