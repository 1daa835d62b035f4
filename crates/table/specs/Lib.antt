-- What the functions below the calls are held to.
pub mod Room
pub mod Named
pub mod Cleared
pub mod Clusters
