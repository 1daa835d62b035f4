-- `loads::chunks::sizes_refusal` tests the front, then the body. Assumes nothing.
use Rattle.std.proofs.Common.{rules}
use mathlib.Core.Path.{ap, sym, ◌∙◌}
use native.Mathlib.Omega.{arith}
use Rattle.loads.proofs.ChunkLaws.{front-uncut, chunk_front, chunk-good, chunk-bad}
use Rattle.rules.specs.Image.{sizes_ok}
use Rattle.loads.proofs.chunks.sizes_refusal.Goals as goal

pub returns-in_err-front_refusal : goal.returns-in_err-front_refusal
returns-in_err-front_refusal c = search (rules, chunk_front)

pub end_of-end-requires : goal.end_of-end-requires
end_of-end-requires c = (omega arith, front-uncut 0 _ c.in_ok-front_refusal.ensures)

pub returns-then-sizes_ok : goal.returns-then-sizes_ok
returns-then-sizes_ok c = chunk-good 0 _ _ c.in_ok-front_refusal.ensures (ap sizes_ok (sym c.end_of-end.ensures.body) ∙ sym c.if-sizes_ok.ensures)

pub returns-else-sizes_ok : goal.returns-else-sizes_ok
returns-else-sizes_ok c = chunk-bad 0 _ _ c.in_ok-front_refusal.ensures (ap sizes_ok (sym c.end_of-end.ensures.body) ∙ sym c.if-sizes_ok.ensures)
