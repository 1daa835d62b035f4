-- ---- the call
pub mod CollectLaws
