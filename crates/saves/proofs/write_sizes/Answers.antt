-- `saves::write_sizes` fills the body of kind 1. Assumes nothing.
use Rattle.saves.proofs.SaveLaws.{sizes-put}
use Rattle.saves.proofs.write_sizes.Goals as goal

pub returns : goal.returns
returns c =
    let a = c.args in
    cc (sizes-put a.body.now a.c.n a.c.r a.c.last c.requires)
