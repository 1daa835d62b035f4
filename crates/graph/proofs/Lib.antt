-- ---- by value
pub mod Trials
-- ---- numbers, lists, walks in general
pub mod NumberLaws
pub mod RunLaws
-- ---- clusters
pub mod Paths
pub mod OutLaws
pub mod MemberLaws
pub mod SinkLaws
-- ---- the walk of a collection: in every heap, then with connected clusters
pub mod ReachLaws
pub mod RoundLaws
pub mod LowestLaws
pub mod FlagLaws
pub mod TraceSafe
pub mod TraceEnds
pub mod TraceInv
pub mod TraceSteps
pub mod TraceKeep
pub mod TraceReach
pub mod TraceCorrect
-- ---- the walk of the analysis
pub mod AnalysisInv
pub mod AnalysisEnds
pub mod DepthFirst
pub mod SizeTable
-- ---- what the calls keep
pub mod State
pub mod AnalysisLaws
pub mod WritesLaws
pub mod Lifecycle
