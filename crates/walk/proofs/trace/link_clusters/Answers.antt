-- `link_clusters` meets its contract.
use Rattle.walk.proofs.TraceLaws.{unlinked, linked-part}
use Rattle.walk.proofs.trace.link_clusters.Goals as goal

pub returns-then-not-by : goal.returns-then-not-by
returns-then-not-by c = unlinked _ _ _ _ c.if-not-by.true-raw

pub returns : goal.returns
returns c =
    linked-part _ _ _ _ c.requires _ c.link.ensures
