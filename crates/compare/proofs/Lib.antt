-- Laws of what a report decides, and the proofs of the functions.
pub mod DecideLaws
