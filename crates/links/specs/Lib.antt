-- The links through the members of each cluster.
pub mod Links
pub mod Linking
