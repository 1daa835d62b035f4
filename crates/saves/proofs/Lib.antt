-- Laws of the writers.
pub mod SaveLaws
