-- `wellformed::formed_ok` tests the objects, then the roots. Assumes nothing.
use Rattle.wellformed.proofs.CheckLaws.{bad-objects, by-roots}
use Rattle.wellformed.proofs.formed_ok.Goals as goal

pub returns-then-objects_ok : goal.returns-then-objects_ok
returns-then-objects_ok c = by-roots _ _ _ _ _ _ c.objects_ok.ensures _ c.if-objects_ok.true c.roots_ok.ensures

pub returns-else-objects_ok : goal.returns-else-objects_ok
returns-else-objects_ok c = bad-objects _ _ _ _ _ _ c.objects_ok.ensures c.if-objects_ok.false
