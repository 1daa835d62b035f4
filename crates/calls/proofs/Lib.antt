-- Both columns give the same, and the proofs of the functions.
pub mod SizeLaws
pub mod PlacesLaws
pub mod Columns
