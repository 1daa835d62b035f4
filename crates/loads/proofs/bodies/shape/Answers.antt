-- `loads::bodies::shape` reads object after object. Assumes nothing.
use mathlib.Core.Bool.{false≢true, true≢false}
use mathlib.Core.Path.{sym, ◌∙◌}
use Rattle.loads.proofs.SetLaws.{shaping-start, shaping-turn, shaping-stop, shaping-ok, shaping-listed, shaping-sunk}
use Rattle.loads.proofs.bodies.shape.Goals as goal

pub loop-at-init : goal.loop-at-init
loop-at-init c = shaping-start _ _ _ _ c.requires.1 c.requires.2

pub fits-requires : goal.fits-requires
fits-requires c = c.loop-at.invariant.reached.inside

pub returns-then-not-fits : goal.returns-then-not-fits
returns-then-not-fits c = record {
  value = shaping-stop _ _ _ _ _ _ c.loop-at.invariant c.loop-at-test.true (λ f. true≢false (sym (c.fits.ensures.1 f) ∙ c.if-not-fits.true));
  listed = λ e. absurd (false≢true e);
  sunk = λ e. absurd (false≢true e);
}

pub loop-at-preserved : goal.loop-at-preserved
loop-at-preserved c =
    rw (c.put_bit.ensures, c.put_sink.ensures, c.number_at-last.ensures, c.head_byte.ensures, c.head_byte-in-loop-at.ensures)
    (shaping-turn _ _ _ _ _ _ c.loop-at.invariant c.requires.0 (c.fits.ensures.0 c.if-not-fits.false))

pub returns : goal.returns
returns c = let l = c.loop-at.invariant in record {
  value = shaping-ok _ _ _ _ _ _ l c.loop-at-test.false;
  listed = λ e. shaping-listed _ _ _ _ _ _ l c.loop-at-test.false;
  sunk = λ e. shaping-sunk _ _ _ _ _ _ l c.loop-at-test.false;
}
