-- The word of an object: its bits and fields.
pub mod Record
