-- What the functions between the call and its tests are held to.
pub mod Sinks
