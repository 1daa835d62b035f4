-- What the writers of an image ask and leave.
pub mod Saves
