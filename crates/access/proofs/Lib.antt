-- Laws of the calls' ends.
pub mod ReadLaws
pub mod ShowLaws
pub mod SetRootLaws
