-- Laws of these sets.
pub mod BitLaws
