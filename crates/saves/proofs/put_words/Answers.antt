-- `saves::put_words` stores words, four bytes each. Invariant: the words passed are stored. Assumes nothing.
use Prim.Native.Nat.{◌+◌, ◌*◌}
use mathlib.Core.Path.{ap, ◌∙◌}
use mathlib.Core.List.{List}
use Prim.Native.Nat.{ℕ}
use lib.ListN.{get_or}
use lib.Seq.{sets}
use Rattle.saves.proofs.SaveLaws.{words-none, words_step}
use Rattle.endian.specs.Bytes.{bytes}
use Rattle.saves.proofs.put_words.Goals as goal

pub loop-j-init : goal.loop-j-init
loop-j-init c = words-none _ _

pub loop-j-preserved : goal.loop-j-preserved
loop-j-preserved c =
    let a = c.args in
    let l = c.loop-j in
    c.put_word.ensures ∙ ap (λ (m : List ℕ). sets m (a.at + 4 * l.j) (bytes 4 (get_or a.words.now l.j 0))) l.invariant
    ∙ words_step a.body.now a.words.now a.at l.j c.loop-j-test.true
