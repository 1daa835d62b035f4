-- `files::next_line` looks, and reads on while no line is found. Assumes nothing.
use Rattle.std.proofs.Common.{◌≡◌, sym, ap, ◌∙◌, rules}
use Rattle.files.specs.declared.Source.{Source}
use Rattle.files.specs.declared.State.TheVariants.{More}
use Rattle.files.proofs.ReadingLaws.{found-next}
use Rattle.files.proofs.next_line.Goals as goal

pub fill-t-requires : goal.fill-t-requires
fill-t-requires g c =
    let more : c.loop.t.state ≡ More = search rules in
    ((c.loop.invariant.0 _ c.look-t.ensures.found).little more).0

pub loop-preserved : goal.loop-preserved
loop-preserved g c =
    let inv = c.loop.invariant in
    let more : c.loop.t.state ≡ More = search rules in
    (λ s f. found-next s _ _ more (inv.0 s f) c.fill-t.ensures, λ d. absurd (d (ap (λ (x : Source). x.state) (sym (inv.1 d).0) ∙ more)))
