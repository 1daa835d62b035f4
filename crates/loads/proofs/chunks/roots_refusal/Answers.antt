-- `loads::chunks::roots_refusal` tests the front, then the body. Assumes nothing.
use Rattle.std.proofs.Common.{rules}
use mathlib.Core.Path.{ap, sym, ◌∙◌}
use Rattle.loads.proofs.ChunkLaws.{front-uncut, chunk_front, chunk-good, chunk-bad}
use Rattle.loads.specs.Bodies.{roots_pass}
use Rattle.loads.proofs.chunks.roots_refusal.Goals as goal

pub returns-in_err-front_refusal : goal.returns-in_err-front_refusal
returns-in_err-front_refusal c = search (rules, chunk_front)

pub end_of-end-requires : goal.end_of-end-requires
end_of-end-requires c = (c.requires.1, front-uncut 2 _ c.in_ok-front_refusal.ensures)

pub returns-then-roots_ok : goal.returns-then-roots_ok
returns-then-roots_ok c =
    let a = c.args in
    chunk-good 2 _ _ c.in_ok-front_refusal.ensures (ap (roots_pass a.n a.r a.words.now) (sym c.end_of-end.ensures.body) ∙ sym c.if-roots_ok.ensures)

pub returns-else-roots_ok : goal.returns-else-roots_ok
returns-else-roots_ok c =
    let a = c.args in
    chunk-bad 2 _ _ c.in_ok-front_refusal.ensures (ap (roots_pass a.n a.r a.words.now) (sym c.end_of-end.ensures.body) ∙ sym c.if-roots_ok.ensures)
