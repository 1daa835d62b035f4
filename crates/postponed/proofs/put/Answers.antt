-- `put` meets its contract.
use Rattle.postponed.proofs.PostponedLaws.{put-made}
use Rattle.postponed.proofs.put.Goals as goal

pub returns : goal.returns
returns c =
    let a = c.args in
    put-made a.n a.x a.on a.work.now _ _ _ c.put_bit-w.ensures.work_after c.put_bit-w.ensures.value c.put_bit.ensures.work_after
