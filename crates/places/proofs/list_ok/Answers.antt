-- `places::list_ok` tests the places, then the objects. Assumes nothing.
use mathlib.Core.Path.{◌∙◌}
use Rattle.places.proofs.SeenLaws.{list-large, list-bad, list-good}
use Rattle.places.proofs.list_ok.Goals as goal

pub returns-then-n-gt-OBJECT_MAX : goal.returns-then-n-gt-OBJECT_MAX
returns-then-n-gt-OBJECT_MAX c = list-large _ _ _ c.if-n-gt-OBJECT_MAX.true

pub returns-then-places_ok : goal.returns-then-places_ok
returns-then-places_ok c = list-good _ _ _ c.if-n-gt-OBJECT_MAX.false _ _ c.places_ok.ensures c.if-places_ok.true _ c.all_seen.ensures

pub returns-else-places_ok : goal.returns-else-places_ok
returns-else-places_ok c = c.if-places_ok.false ∙ list-bad _ _ _ c.if-n-gt-OBJECT_MAX.false _ _ c.places_ok.ensures c.if-places_ok.false
