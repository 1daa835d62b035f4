-- What a report decides.
pub mod Turns
pub mod Answers
pub mod Survivors
pub mod Hands
