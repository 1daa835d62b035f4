-- What the functions of the call are held to.
pub mod Writes
