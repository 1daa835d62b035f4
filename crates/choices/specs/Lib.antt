-- What an analysis chooses by a record or a few numbers.
pub mod Choices
