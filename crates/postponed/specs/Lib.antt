-- The set of postponed objects.
pub mod Postponed
