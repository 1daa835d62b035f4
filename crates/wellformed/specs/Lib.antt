-- What the functions of the check are held to.
pub mod Check
