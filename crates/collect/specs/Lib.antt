-- What the functions of a collection are held to.
pub mod Call
