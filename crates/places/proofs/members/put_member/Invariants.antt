-- `places::members::put_member` puts word after word: what is left to put comes to the same. Assumes nothing.
use mathlib.Core.Path.{◌≡◌}
use Rattle.places.specs.Places.{put_all}
use Rattle.places.proofs.PutLaws.{rest}
use Rattle.places.proofs.members.put_member.Given as goal

abbrev pub invariant-loop-w : goal.invariant-loop-w
invariant-loop-w l = put_all (rest l.n l.w-items l.w-index) l.seen ≡ put_all (rest l.n l.w-items 0) l.initial.seen
