-- `places::listed::places_ok` goes from the last place to the first. Assumes nothing.
use Rattle.places.proofs.SeenLaws.{Seeing}
use Rattle.places.proofs.listed.places_ok.Given as goal

abbrev pub invariant-loop-k : goal.invariant-loop-k
invariant-loop-k l = Seeing l.n l.records l.list l.seen l.k
