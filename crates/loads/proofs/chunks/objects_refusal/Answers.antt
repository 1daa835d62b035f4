-- `loads::chunks::objects_refusal` tests the front, then the body. Assumes nothing.
use Rattle.std.proofs.Common.{rules}
use mathlib.Core.Path.{ap, sym, ◌∙◌}
use Rattle.loads.specs.Bodies.{objects_pass}
use Rattle.loads.proofs.ChunkLaws.{front-uncut, chunk_front, chunk-good, chunk-bad}
use Rattle.loads.proofs.chunks.objects_refusal.Goals as goal

pub returns-in_err-front_refusal-clause-value : goal.returns-in_err-front_refusal-clause-value
returns-in_err-front_refusal-clause-value c = search (rules, chunk_front)

pub end_of-end-requires : goal.end_of-end-requires
end_of-end-requires c = (c.requires.1, front-uncut 1 _ c.in_ok-front_refusal.ensures)

pub returns-then-objects_ok : goal.returns-then-objects_ok
returns-then-objects_ok c =
    let body = c.end_of-end.ensures.body in
    let o = c.objects_ok.ensures in
    let yes = c.if-objects_ok.true in
    record {
      value = chunk-good 1 _ _ c.in_ok-front_refusal.ensures (ap (objects_pass c.args.n) (sym body) ∙ sym o.value ∙ yes);
      listed = rw (sym body) (o.listed yes);
      sunk = rw (sym body) (o.sunk yes);
    }

pub returns-else-objects_ok-clause-value : goal.returns-else-objects_ok-clause-value
returns-else-objects_ok-clause-value c =
    let body = c.end_of-end.ensures.body in
    chunk-bad 1 _ _ c.in_ok-front_refusal.ensures (ap (objects_pass c.args.n) (sym body) ∙ sym c.objects_ok.ensures.value ∙ c.if-objects_ok.false)
