-- Laws of these.
pub mod WordLaws
pub mod NumeralLaws
pub mod LineLaws
pub mod Trials
