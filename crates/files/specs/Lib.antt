-- Lists that are read line by line.
pub mod Reading
