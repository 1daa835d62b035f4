-- What the functions between the calls are held to.
pub mod Search
