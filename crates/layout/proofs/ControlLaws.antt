-- A control record that is not refused, as plain facts, and what keeps it so. Assumes nothing.
use Prim.Native.Nat.{ℕ, ◌≤◌}
use mathlib.Core.Path.{◌≡◌, refl}
use mathlib.Core.Bool.{Bool, true, false, ◌||◌, or-true}
use mathlib.Core.Logic.{◌⊎◌, inl, inr}
use native.Mathlib.Omega.{arith}
use lib.Dec.{eqb}
use borrow.Author.Tests.{ltb-false, le-ltb, eqb-true, eq-eqb, not-false}
use Rattle.layout.specs.Limits.{object_max, root_max, least_max, outs_max, limit_max, within}
use Rattle.layout.specs.ControlRecord.{bad_sizes, bad_tuning, bad_control, new_control, control_with, with_last, with_write_loss, with_analysis, bad_limit}
use Rattle.layout.specs.declared.answers.Control.{Control}
use Rattle.layout.specs.declared.answers.Tuning.{Tuning}
use Rattle.layout.proofs.BoolLaws.{or_split}
use Rattle.layout.proofs.LimitLaws.{within-true, in_within}

-- ---- the sizes

pub record Sizes (n r : ℕ) : Type 0 where
  pub some : 1 ≤ n
  pub most : n ≤ object_max
  pub root : 1 ≤ r
  pub roots : r ≤ root_max

pub sizes-facts : (n r : ℕ) → bad_sizes n r ≡ false → Sizes n r
unfolding bad_sizes
sizes-facts n r e =
    let f = or_split _ _ e in
    let a = within-true 1 object_max n (not-false _ f.0) in
    let b = within-true 1 root_max r (not-false _ f.1) in
    record { some = a.0; most = a.1; root = b.0; roots = b.1 }

pub facts-sizes : (n r : ℕ) → Sizes n r → bad_sizes n r ≡ false
unfolding bad_sizes
facts-sizes n r s = rw (in_within 1 object_max n s.some s.most, in_within 1 root_max r s.root s.roots) refl

-- ---- the tuning

pub record Tuned (t : Tuning) : Type 0 where
  pub least : 1 ≤ t.least_members
  pub leasts : t.least_members ≤ least_max
  pub outs : t.outs_per_ten ≤ outs_max
  pub lowest : 1 ≤ t.lowest_limit
  pub lowests : t.lowest_limit ≤ limit_max

pub tuning-facts : (t : Tuning) → bad_tuning t ≡ false → Tuned t
unfolding bad_tuning
tuning-facts t e =
    let f = or_split _ _ e in
    let g = or_split _ _ f.0 in
    let a = within-true 1 least_max t.least_members (not-false _ g.0) in
    let b = within-true 1 limit_max t.lowest_limit (not-false _ f.1) in
    record { least = a.0; leasts = a.1; outs = ltb-false outs_max t.outs_per_ten g.1; lowest = b.0; lowests = b.1 }

pub facts-tuning : (t : Tuning) → Tuned t → bad_tuning t ≡ false
unfolding bad_tuning
facts-tuning t f =
    rw (
      in_within 1 least_max t.least_members f.least f.leasts,
      le-ltb outs_max t.outs_per_ten f.outs,
      in_within 1 limit_max t.lowest_limit f.lowest f.lowests,
    ) refl

-- ---- the control record

-- none yet, or in its range
abbrev pub Limit : ℕ → ℕ → Type 0
Limit lowest m = (m ≡ 0) ⊎ ((lowest ≤ m) × (m ≤ limit_max))

pub record Sound (c : Control) : Type 0 where
  pub sizes : Sizes c.n c.r
  pub last : c.last ≤ c.n
  pub tuned : Tuned c.tuning
  pub limit : Limit c.tuning.lowest_limit c.limit
  pub writes : c.write_loss ≤ c.n
  pub outs : c.out_loss ≤ c.n

limit-facts : (lowest m : ℕ) → bad_limit lowest m ≡ false → Limit lowest m
unfolding bad_limit
limit-facts lowest m h = go (eqb m 0) refl (not-false _ h)
  where
    go : (b : Bool) → eqb m 0 ≡ b → b || within lowest limit_max m ≡ true → Limit lowest m
    go true e q = inl (eqb-true m 0 e)
    go false e q = inr (within-true lowest limit_max m q)

facts-limit : (lowest m : ℕ) → Limit lowest m → bad_limit lowest m ≡ false
unfolding bad_limit
facts-limit lowest m (inl z) = rw (eq-eqb m 0 z) refl
facts-limit lowest m (inr b) = rw (in_within lowest limit_max m b.0 b.1, or-true (eqb m 0)) refl

pub control-facts : (c : Control) → bad_control c ≡ false → Sound c
unfolding bad_control
control-facts c e =
    let outs = or_split _ _ e in
    let writes = or_split _ _ outs.0 in
    let limit = or_split _ _ writes.0 in
    let last = or_split _ _ limit.0 in
    let tuned = or_split _ _ last.0 in
    record {
      sizes = sizes-facts c.n c.r tuned.0;
      tuned = tuning-facts c.tuning tuned.1;
      last = ltb-false c.n c.last last.1;
      limit = limit-facts c.tuning.lowest_limit c.limit limit.1;
      writes = ltb-false c.n c.write_loss writes.1;
      outs = ltb-false c.n c.out_loss outs.1;
    }

pub facts-control : (c : Control) → Sound c → bad_control c ≡ false
unfolding bad_control
facts-control c s =
    rw (
      facts-sizes c.n c.r s.sizes,
      facts-tuning c.tuning s.tuned,
      le-ltb c.n c.last s.last,
      facts-limit c.tuning.lowest_limit c.limit s.limit,
      le-ltb c.n c.write_loss s.writes,
      le-ltb c.n c.out_loss s.outs,
    ) refl

-- ---- what keeps it so

pub new-sound : (n r : ℕ) (t : Tuning) → Sizes n r → Tuned t → Sound (new_control n r t)
unfolding new_control
new-sound n r t s u = record { sizes = s; last = omega arith; tuned = u; limit = inl refl; writes = omega arith; outs = omega arith }

module _ (c : Control) (s : Sound c) where
  with-sound : {last limit writes outs : ℕ} → last ≤ c.n → Limit c.tuning.lowest_limit limit → writes ≤ c.n → outs ≤ c.n → Sound (control_with last limit writes outs c)
  with-sound l m w o = record { sizes = s.sizes; last = l; tuned = s.tuned; limit = m; writes = w; outs = o }

  pub last-sound : (i : ℕ) → i ≤ c.n → Sound (with_last i c)
  unfolding with_last
  last-sound i l = with-sound l s.limit s.writes s.outs

  pub writes-sound : (k : ℕ) → k ≤ c.n → Sound (with_write_loss k c)
  unfolding with_write_loss
  writes-sound k l = with-sound s.last s.limit l s.outs

  pub analysis-sound : (m loss : ℕ) → c.tuning.lowest_limit ≤ m → m ≤ limit_max → loss ≤ c.n → Sound (with_analysis m loss c)
  unfolding with_analysis
  analysis-sound m loss a b l = with-sound s.last (inr (a, b)) (omega arith) l
