pub mod Joined
pub mod Masks
pub mod Written
