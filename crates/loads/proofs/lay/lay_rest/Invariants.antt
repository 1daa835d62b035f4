-- `loads::lay::lay_rest` stores word after word. Assumes nothing.
use Prim.Native.Nat.{◌+◌, ◌*◌}
use mathlib.Core.Path.{◌≡◌}
use Rattle.endian.specs.Bytes.{number_at}
use Rattle.loads.specs.Laid.{laid}
use Rattle.loads.proofs.lay.lay_rest.Given as goal

abbrev pub invariant-loop-i : goal.invariant-loop-i
invariant-loop-i l = (l.at ≡ l.from + 4 * l.i) × (l.words ≡ laid l.base l.i (λ i. number_at 4 (l.from + 4 * i) l.body) l.initial.words)
