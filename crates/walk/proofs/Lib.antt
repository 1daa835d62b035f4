-- ---- the flags in the records
pub mod MarkLaws
-- ---- the moves of the walk
pub mod PendingLaws
pub mod MoveLaws
pub mod VisitLaws
pub mod SinkLaws
-- ---- from the starts to the end
pub mod EndLaws
pub mod TraceLaws
-- ---- the walk with its tests
pub mod AcceptLaws
