-- `places::fill_sets` clears the sets, then puts the places. Assumes nothing.
use Prim.Native.Nat.{ℕ}
use mathlib.Core.List.{List}
use mathlib.Core.Path.{ap₂, ◌∙◌}
use Rattle.graph.specs.Numbers.{gather}
use Rattle.places.specs.Places.{put_all, is_member, object_bits}
use Rattle.places.proofs.ExactLaws.{fill-large, filled_none, filled-last}
use Rattle.places.proofs.fill_sets.Goals as goal

pub returns-then-n-gt-OBJECT_MAX : goal.returns-then-n-gt-OBJECT_MAX
returns-then-n-gt-OBJECT_MAX c = fill-large _ _ _ c.if-n-gt-OBJECT_MAX.true

pub returns-then-none_listed : goal.returns-then-none_listed
returns-then-none_listed c =
    let a = c.args in
    filled_none a.n a.records.now a.slots.now a.sinks.now _ _ c.if-n-gt-OBJECT_MAX.false
    (c.none_listed.ensures c.if-none_listed.true) c.zero.ensures

pub returns : goal.returns
returns c =
    let a = c.args in
    let f = c.fill_places.ensures in
    let z = c.zero.ensures in
    filled-last a.n a.records.now a.slots.now a.sinks.now a.sets.now _ c.if-n-gt-OBJECT_MAX.false
    (c.put_sets.ensures
    ∙ ap₂ (λ (t s : List ℕ). put_all (gather a.n (is_member a.n a.records.now) (object_bits a.n a.records.now a.slots.now t)) s) f z)
