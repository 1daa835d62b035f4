-- What the functions below the calls are held to.
pub mod Answered
