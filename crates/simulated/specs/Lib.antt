pub mod Comparators
pub mod Simulations
