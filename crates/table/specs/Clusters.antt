-- Clusters in the records, read for any n and any slice: past its end a record counts as 0.
use Rattle.std.specs.Prelude.{ℕ, Bool, cond, List, map, eqb, ltb}
use Rattle.records.specs.Record.{is_sink, cluster, loose}
use Rattle.graph.specs.Clusters.{size, leaves, out_count}
use Rattle.rules.specs.Buffers.{rec_of, each_record}
use Rattle.rules.specs.View.{target}

-- the sink bit of object x
abbrev pub sink_of : ℕ → List ℕ → ℕ → Bool
sink_of n recs x = is_sink (rec_of n recs x)

-- the cluster of object x, 0 for none
abbrev pub cluster_of : ℕ → List ℕ → ℕ → ℕ
cluster_of n recs x = cluster (rec_of n recs x)

-- the word points at an object outside cluster c that is no sink
unfoldable pub word_leaves : ℕ → List ℕ → ℕ → ℕ → Bool
word_leaves n recs c w = leaves (sink_of n recs) (cluster_of n recs) c (target n w)

-- one of the words does
unfoldable pub any_leaves : ℕ → List ℕ → ℕ → List ℕ → Bool
any_leaves n recs c ws = ltb 0 (out_count (sink_of n recs) (cluster_of n recs) c (map (target n) ws))

-- the members of cluster c
unfoldable pub members_of : ℕ → List ℕ → ℕ → ℕ
members_of n recs c = size n (cluster_of n recs) c

-- a record after cluster c is dissolved
unfoldable pub dissolved_record : ℕ → ℕ → ℕ
dissolved_record c r = cond (eqb (cluster r) c) (loose r) r

-- every member of c loose
unfoldable pub dissolved : ℕ → ℕ → List ℕ → List ℕ
dissolved n c recs = each_record n (λ x r. dissolved_record c r) recs
