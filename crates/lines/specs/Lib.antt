-- A line of a call list: its words, its numbers, and the call that it makes.
pub mod Text
pub mod Word
pub mod Numeral
pub mod Kinds
pub mod Told
pub mod Line
pub mod Examples
