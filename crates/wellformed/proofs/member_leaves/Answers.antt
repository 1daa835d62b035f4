-- `wellformed::member_leaves` follows the words of members alone, and no nil. Assumes nothing.
use Rattle.std.proofs.Common.{rules}
use Rattle.wellformed.specs.Check.{member_leaves}
use Rattle.table.proofs.ClusterLaws.{nil-stays}
use Rattle.wellformed.proofs.member_leaves.Goals as goal

pub returns-then-w-ne0 : goal.returns-then-w-ne0
unfolding member_leaves
returns-then-w-ne0 c = search rules

pub returns-else-w-ne0 : goal.returns-else-w-ne0
unfolding member_leaves
returns-else-w-ne0 c = search (rules, nil-stays)
