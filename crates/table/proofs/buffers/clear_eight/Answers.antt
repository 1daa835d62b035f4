-- `table::buffers::clear_eight` clears eight words, or what there is of them. Assumes nothing.
use mathlib.Core.Path.{sym, ◌∙◌}
use Prim.Native.Nat.{◌-◌}
use native.Mathlib.Omega.{arith}
use lib.ListN.{length}
use borrow.Author.Tests.{ltb-true, ltb-false}
use Rattle.table.proofs.ClearedLaws.{cleared-short}
use Rattle.table.proofs.buffers.clear_eight.Goals as goal
use Rattle.table.proofs.buffers.clear_eight.Goals.{then-end-lt8, else-end-lt8}

pub store_eight-requires : goal.store_eight-requires
store_eight-requires c =
    let e = c.if-end-at.false in
    elim c.if-end-lt8.branch [
      | then-end-lt8 w ↦ omega (arith, ltb-false (length c.args.words.now) 8 (sym w.value-is ∙ e))
      | else-end-lt8 w ↦ omega (arith, ltb-false (length c.args.words.now - 8) c.args.at (sym w.value-is ∙ e))
    ]

pub returns-then-end-at : goal.returns-then-end-at
returns-then-end-at c =
    c.clear.ensures
    ∙ cleared-short _ _ _ _ (omega arith)
    (elim c.if-end-lt8.branch [
      | then-end-lt8 w ↦ omega arith
      | else-end-lt8 w ↦ omega (arith, ltb-true (length c.args.words.now - 8) c.args.at (sym w.value-is ∙ c.if-end-at.true))
    ])
