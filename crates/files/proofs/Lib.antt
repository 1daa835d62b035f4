-- Laws of lists that are read, and the proofs of the functions.
pub mod ReadingLaws
