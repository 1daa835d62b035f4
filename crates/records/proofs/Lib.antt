-- Laws of that word.
pub mod RecordLaws
