-- `loads::chunks::front_refusal` tests the bytes left, then the kind. Assumes nothing.
use Rattle.loads.proofs.ChunkLaws.{front-short, front_cut, front-kind}
use Rattle.loads.proofs.chunks.front_refusal.Goals as goal
use Rattle.loads.proofs.chunks.front_refusal.Goals.{then-left-lt-FRONT-via-then-left-lt-FRONT, then-left-lt-FRONT-via-else-left-lt-FRONT+then-left-get4}

pub returns-then-left-lt-FRONT : goal.returns-then-left-lt-FRONT
returns-then-left-lt-FRONT c = elim c.then-left-lt-FRONT.branch [
  | then-left-lt-FRONT-via-then-left-lt-FRONT w ↦ front-short _ _ _ c.requires w.if-left-lt-FRONT.true
  | then-left-lt-FRONT-via-else-left-lt-FRONT+then-left-get4 w ↦ front_cut _ _ _ c.requires w.if-left-lt-FRONT.false _ w.get4.ensures w.if-left-get4.true
]

pub returns : goal.returns
returns c = front-kind _ _ _ c.requires c.if-left-lt-FRONT.false _ c.get4.ensures c.if-left-get4.false _ _ c.get2.ensures c.kind_refusal.ensures
