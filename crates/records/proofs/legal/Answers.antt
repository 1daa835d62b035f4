-- `records::legal` is the test of specs/: four tests joined, then those of a sink and of an out member. Assumes nothing.
use borrow.Author.Tests.{lt-ltb, le-ltb, leb-true, leb-false, eq-eqb, ne_eqb}
use mathlib.Core.Path.{◌≡◌, refl, ◌∙◌, sym, ap}
use mathlib.Core.Bool.{true, false, not, Bool, ◌&&◌, ◌||◌, and-true, or-true, or-false, false≢true}
use Prim.Native.Nat.{ℕ}
use lib.Bits.{bit_and}
use lib.Dec.{eqb, leb, ltb}
use Rattle.layout.specs.Field.{flag}
use Rattle.records.specs.Record.{legal, clear, width, cluster}
use Rattle.records.proofs.RecordLaws.{mask-clear}
use Rattle.records.proofs.legal.Goals as goal

above : (a b : ℕ) → ltb a b ≡ not (leb b a)
above a b = go (leb b a) refl
  where
    go : (t : Bool) → leb b a ≡ t → ltb a b ≡ not t
    go true e = le-ltb a b (leb-true b a e)
    go false e = lt-ltb a b (leb-false b a e)

-- the four tests that are joined, and what stands behind them
one-fails : (a b c d e f : Bool) → (not a || not b) || (not c || not d) ≡ true → false ≡ a && b && c && d && e && f
one-fails false b c d e f h = refl
one-fails true false c d e f h = refl
one-fails true true false d e f h = refl
one-fails true true true false e f h = refl
one-fails true true true true e f h = absurd (false≢true h)

all_pass : (a b c d e f : Bool) → (not a || not b) || (not c || not d) ≡ false → e && f ≡ a && b && c && d && e && f
all_pass true true true true e f h = refl
all_pass false b c d e f h = absurd (false≢true (sym h))
all_pass true false c d e f h = absurd (false≢true (sym h))
all_pass true true false d e f h = absurd (false≢true (sym h))
all_pass true true true false e f h = absurd (false≢true (sym h))

-- the two tests that speak of the cluster, for an object that is neither
plain_passes : (s o k : Bool) → not (s || o) ≡ true → true ≡ (not s || k) && (not o || not k)
plain_passes false false k h = refl
plain_passes false true k h = absurd (false≢true h)
plain_passes true o k h = absurd (false≢true h)

module _ (n r : ℕ) where
  -- the tests as the code makes them
  abbrev joined : Bool
  joined = (not (eqb (bit_and r 0xF000F0F0) 0) || not (flag 0 r)) || (ltb 8 (width r) || ltb n (cluster r))

  as-tested : joined ≡ (not (clear r) || not (flag 0 r)) || (not (leb (width r) 8) || not (leb (cluster r) n))
  as-tested = rw (mask-clear r, above 8 (width r), above n (cluster r)) refl

  -- the two tests of the cluster
  abbrev sink-passes : Bool
  sink-passes = not (flag 2 r) || eqb (cluster r) 0

  abbrev out-passes : Bool
  out-passes = not (flag 3 r) || not (eqb (cluster r) 0)

  refused : joined ≡ true → false ≡ legal n r
  unfolding legal
  refused h = one-fails (clear r) (flag 0 r) (leb (width r) 8) (leb (cluster r) n) sink-passes out-passes (sym as-tested ∙ h)

  module _ (h : joined ≡ false) where
    passed : sink-passes && out-passes ≡ legal n r
    unfolding legal
    passed = all_pass (clear r) (flag 0 r) (leb (width r) 8) (leb (cluster r) n) sink-passes out-passes (sym as-tested ∙ h)

    plain : not (flag 2 r || flag 3 r) ≡ true → true ≡ legal n r
    plain q = plain_passes (flag 2 r) (flag 3 r) (eqb (cluster r) 0) q ∙ passed

    loose : cluster r ≡ 0 → not (flag 3 r) ≡ legal n r
    loose z = of_none ∙ passed
      where
        of_none : not (flag 3 r) ≡ sink-passes && out-passes
        of_none = rw (eq-eqb _ _ z, or-true (not (flag 2 r)), or-false (not (flag 3 r))) refl

    member : (cluster r ≡ 0 → ⊥) → not (flag 2 r) ≡ legal n r
    member z = of_some ∙ passed
      where
        of_some : not (flag 2 r) ≡ sink-passes && out-passes
        of_some = rw (ne_eqb _ _ z, or-false (not (flag 2 r)), or-true (not (flag 3 r)), and-true (not (flag 2 r))) refl

pub returns-then-flags-past : goal.returns-then-flags-past
returns-then-flags-past c =
    refused _ _ (rw (sym c.in_use.ensures, sym c.width_of.ensures, sym c.cluster_of-c.ensures) c.if-flags-past.true)

pub returns-then-not-is_sink-is_out : goal.returns-then-not-is_sink-is_out
returns-then-not-is_sink-is_out c =
    plain _ _ (rw (sym c.in_use.ensures, sym c.width_of.ensures, sym c.cluster_of-c.ensures) c.if-flags-past.false) (rw (sym c.is_sink.ensures, sym c.is_out.ensures) c.if-not-is_sink-is_out.true-raw)

pub returns-then-c-eq0 : goal.returns-then-c-eq0
returns-then-c-eq0 c =
    ap not c.is_out-then-c-eq0.ensures ∙ loose _ _ (rw (sym c.in_use.ensures, sym c.width_of.ensures, sym c.cluster_of-c.ensures) c.if-flags-past.false) (sym c.cluster_of-c.ensures ∙ c.if-c-eq0.true)

pub returns-else-c-eq0 : goal.returns-else-c-eq0
returns-else-c-eq0 c =
    ap not c.is_sink-else-c-eq0.ensures ∙ member _ _ (rw (sym c.in_use.ensures, sym c.width_of.ensures, sym c.cluster_of-c.ensures) c.if-flags-past.false) (λ z. c.if-c-eq0.false (c.cluster_of-c.ensures ∙ z))
