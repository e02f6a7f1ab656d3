pub mod Rates
pub mod Words
pub mod Steps
pub mod Views
pub mod WordLaws
pub mod ViewLaws
pub mod PartLaws
pub mod AlarmKind
