-- `loads::chunks::rest_refusal` goes from chunk to chunk. Assumes nothing.
use Rattle.std.proofs.lemmas.Result.{err_from_is_err_and}
use Rattle.loads.proofs.ImageLaws.{chunk-uncut}
use Rattle.loads.proofs.TailLaws.{going_start, going-zero, going-turn, going-stop, going_end}
use native.Mathlib.Omega.{arith}
use Rattle.loads.proofs.chunks.rest_refusal.Goals as goal

pub loop-at-init : goal.loop-at-init
loop-at-init c = going_start _ _ _ c.requires.from_in_bounds.0 c.requires.from_in_bounds.1 c.requires.sunk

pub tail_refusal-requires : goal.tail_refusal-requires
tail_refusal-requires c = (c.loop-at.invariant.inside, going-zero _ _ _ c.loop-at.invariant)

pub returns-in_err-tail_refusal : goal.returns-in_err-tail_refusal
returns-in_err-tail_refusal c =
    let p = err_from_is_err_and c.from_residual.result c.from_residual.ensures.1 in
    rw (p.1, p.2) (going-stop _ _ _ c.loop-at.invariant c.requires.from_in_bounds.2 c.loop-at-test.true _ c.in_err-tail_refusal.ensures.value)

pub end_of-at-requires : goal.end_of-at-requires
end_of-at-requires c = (c.loop-at.invariant.inside, chunk-uncut 3 _ _ c.in_ok-tail_refusal.ensures.value)

pub loop-at-smaller : goal.loop-at-smaller
loop-at-smaller c = omega (arith, c.end_of-at.ensures.start)

pub loop-at-preserved : goal.loop-at-preserved
loop-at-preserved c =
    let t = c.in_ok-tail_refusal.ensures in
    going-turn _ _ _ c.loop-at.invariant c.requires.from_in_bounds.2 c.loop-at-test.true t.value _ t.tail_set _ c.end_of-at.ensures

pub returns : goal.returns
returns c = going_end _ _ _ c.loop-at.invariant c.loop-at-test.false
