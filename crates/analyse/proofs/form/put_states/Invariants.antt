-- `put_states` meets its contract. Assumes nothing.
use Prim.Native.Nat.{◌*◌, ◌-◌}
use Rattle.table.specs.Clusters.{cluster_of}
use Rattle.analyse.specs.Filling.{Filling}
use Rattle.analyse.proofs.form.put_states.Given as goal

abbrev pub invariant-loop-x : goal.invariant-loop-x
invariant-loop-x l = Filling l.n (9 * l.n) (cluster_of l.n l.records) l.initial.work l.work (l.x - 1)
