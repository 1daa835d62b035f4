-- `lowest` meets its contract. The loop's invariant: from word k of the summary on the search ends as it does from the first.
use mathlib.Core.Path.{refl, sym, ◌∙◌}
use Rattle.postponed.proofs.PostponedLaws.{search-on, search-found, search-done}
use Rattle.postponed.proofs.lowest.Goals as goal

pub returns-then-w-ne0 : goal.returns-then-w-ne0
returns-then-w-ne0 c =
    let a = c.args in
    search-found a.n a.work.now c.loop-k.k c.loop-k-test.true c.loop-k.invariant _ c.word_at-w.ensures c.if-w-ne0.true
    _ refl _ c.word_at.ensures _ refl

pub loop-k-preserved : goal.loop-k-preserved
loop-k-preserved c =
    let a = c.args in
    search-on a.n a.work.now c.loop-k.k c.loop-k-test.true c.loop-k.invariant (sym c.word_at-w.ensures ∙ c.if-w-ne0.false)

pub returns : goal.returns
returns c = let a = c.args in search-done a.n a.work.now c.loop-k.k c.loop-k-test.false c.loop-k.invariant
