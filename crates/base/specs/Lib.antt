pub mod Bits
pub mod TwoWords
pub mod Numbers
pub mod Chips
pub mod Refusals
