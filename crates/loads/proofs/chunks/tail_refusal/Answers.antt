-- `loads::chunks::tail_refusal` tests the front, then the body of a chunk of sinks. Assumes nothing.
use Rattle.std.proofs.Common.{rules}
use Rattle.loads.proofs.ChunkLaws.{front-uncut, chunk_front}
use Rattle.loads.proofs.TailLaws.{tail-passed, tail-same, tail-good, tail-wrong, tail-empty}
use Rattle.loads.proofs.chunks.tail_refusal.Goals as goal

pub returns-in_err-front_refusal-clause-value : goal.returns-in_err-front_refusal-clause-value
returns-in_err-front_refusal-clause-value c = search (rules, chunk_front)

pub returns-then-get2-ne-SINKS : goal.returns-then-get2-ne-SINKS
returns-then-get2-ne-SINKS c = let f = c.in_ok-front_refusal.ensures in record {
  value = tail-passed _ _ _ _ c.get2.ensures f c.if-get2-ne-SINKS.true;
  tail_set = tail-same _ _ _ _ c.get2.ensures f c.if-get2-ne-SINKS.true;
}

pub end_of-end-requires : goal.end_of-end-requires
end_of-end-requires c = (c.requires.0, front-uncut 3 _ c.in_ok-front_refusal.ensures)

pub returns-then-sinks_ok : goal.returns-then-sinks_ok
returns-then-sinks_ok c =
    let f = c.in_ok-front_refusal.ensures in
    record {
      value = tail-good _ _ _ _ c.get2.ensures f c.if-get2-ne-SINKS.false _ _ c.end_of-end.ensures.body c.sinks_ok.ensures.value c.if-sinks_ok.true;
      tail_set = tail-empty _ _ _ _ c.get2.ensures f c.if-get2-ne-SINKS.false _ (c.sinks_ok.ensures.empty c.if-sinks_ok.true);
    }

pub returns-else-sinks_ok-clause-value : goal.returns-else-sinks_ok-clause-value
returns-else-sinks_ok-clause-value c =
    tail-wrong _ _ _ _ c.get2.ensures c.in_ok-front_refusal.ensures c.if-get2-ne-SINKS.false _ _ c.end_of-end.ensures.body c.sinks_ok.ensures.value c.if-sinks_ok.false
