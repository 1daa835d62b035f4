-- `link_all` meets its contract. Assumes nothing.
use Prim.Native.Nat.{◌+◌, ◌-◌, ◌≤◌}
use mathlib.Core.Path.{◌≡◌}
use lib.ListN.{drop}
use Rattle.links.specs.Links.{linked_at}
use Rattle.links.specs.Linking.{Linking}
use Rattle.links.proofs.link_all.Given as goal

abbrev pub invariant-loop-x : goal.invariant-loop-x
invariant-loop-x l = (l.x ≤ l.n + 1) × Linking l.n (linked_at l.outs l.n l.records) l.work (l.x - 1) × (drop l.n l.work ≡ drop l.n l.initial.work)
