-- The walk of a collection in the lent words.
pub mod Marks
pub mod State
pub mod Walk
