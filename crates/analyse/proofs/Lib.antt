-- Laws of the analysis's code.
-- ---- the work words
pub mod MemoryLaws
pub mod FillLaws
pub mod PartLaws
pub mod MarkLaws
-- ---- one visit
pub mod PushLaws
pub mod SlotLaws
pub mod OlderLaws
pub mod PlaceLaws
pub mod VisitLaws
-- ---- the walk
pub mod WalkLaws
pub mod StartLaws
-- ---- what is left
pub mod JudgeLaws
pub mod AnswerLaws
pub mod BridgeLaws
pub mod SettleLaws
pub mod EndLaws
-- ---- the call
pub mod LimitLaws
pub mod CallLaws
