-- What running a call of a list answers and leaves, when the answers of two columns agree, and the claim about the columns.
pub mod Run
pub mod Compare
pub mod Columns
