-- What the functions of load are held to.
pub mod Bodies
pub mod Chunks
pub mod Laid
