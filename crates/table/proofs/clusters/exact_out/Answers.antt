-- `table::clusters::exact_out` asks the used words of an object with a cluster. Assumes nothing.
use Rattle.std.proofs.Common.{rules}
use Rattle.std.proofs.lemmas.Iterator.{YieldsList-from_slice}
use Rattle.std.proofs.lemmas.Iterator.Search.{any_from_yields_List}
use Rattle.table.specs.Clusters.{word_leaves}
use Rattle.table.proofs.ClusterLaws.{out-loose, out-used}
use Rattle.table.proofs.clusters.exact_out.Goals as goal

pub returns-then-c-ne0 : goal.returns-then-c-ne0
returns-then-c-ne0 c =
    out-used _ _ _ _ _ _ c.record_of-r.ensures c.cluster_of-c.ensures c.if-c-ne0.true _ c.used_words.result.now c.used_words.ensures
    (any_from_yields_List (word_leaves c.args.n c.args.records.now c.cluster_of-c.result) _ _ c.any.result c.any.ensures.ran (YieldsList-from_slice c.used_words.result.now cc) (λ w b q k. search rules))

pub returns-else-c-ne0 : goal.returns-else-c-ne0
returns-else-c-ne0 c = out-loose _ _ _ _ _ _ c.record_of-r.ensures c.cluster_of-c.ensures c.if-c-ne0.false
