pub mod Fit
pub mod Counts
pub mod Shown
