-- ---- the members of a cluster in order
pub mod MemberOrder
-- ---- how they are linked
pub mod LinkLaws
