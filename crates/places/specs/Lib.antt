-- What the inner functions are held to.
pub mod Places
