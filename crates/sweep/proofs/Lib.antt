-- ---- a loop over the records
pub mod PassingLaws
-- ---- marks and clusters
pub mod MarkLaws
-- ---- the freed map and the freed objects
pub mod FreedLaws
-- ---- the whole sweep
pub mod UnflaggedLaws
pub mod SweptLaws
