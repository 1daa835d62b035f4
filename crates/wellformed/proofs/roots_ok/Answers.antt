-- `wellformed::roots_ok` tests every root. Assumes nothing.
use Rattle.std.proofs.Common.{rules}
use Rattle.std.proofs.iter.runs.Made.{chains}
use Rattle.wellformed.proofs.CheckLaws.{roots-answered}
use Rattle.wellformed.proofs.roots_ok.Goals as goal

pub returns : goal.returns
returns c = let a = c.args in roots-answered a.n a.r a.records.now a.roots.now _ (search (rules, chains))
