-- A list in which each number is in its last place alone: the places that the code fills are those of it.
-- Assumes nothing.
use Prim.Native.Nat.{ℕ, zero, suc, ◌≤◌, ◌<◌}
use mathlib.Core.Path.{◌≡◌, refl, sym, ap, ap₂, ◌∙◌}
use mathlib.Core.Bool.{Bool, true, false, not, cond, ◌&&◌, ◌||◌}
use mathlib.Core.List.{List, [], ◌∷◌}
use mathlib.Core.Logic.{◌≢◌}
use native.Mathlib.Decide.{ℕ_discrete, dec_lt}
use native.Mathlib.Omega.{arith}
use lib.Dec.{eqb, leb}
use lib.ListN.{length, get_or, take, set, length-set, length-take, get_or-eq_default}
use lib.Seq.{get_or-set_same, get_or-set_other, ext_get_or, take_all}
use borrow.Author.Tests.{eqb-false, ne_eqb, le-leb, le-ltb}
use Rattle.layout.specs.Limits.{object_max, sink_max}
use Rattle.layout.specs.Word.{is_nil}
use Rattle.graph.specs.Numbers.{has}
use Rattle.rules.specs.Buffers.{short, rec_of, all_to}
use Rattle.rules.specs.View.{view, listing, heap_in, set_word, exact_sets}
use Rattle.rules.specs.WellFormed.{once, sets_ok}
use Rattle.rules.proofs.BoolLaws.{or_split}
use Rattle.rules.proofs.ListedLaws.{once-rest, once-other}
use Rattle.places.specs.Places.{placed, latest, last_places}
use Rattle.places.proofs.FillLaws.{length-placed}

pub length-latest : (l : List ℕ) → length (latest l) ≡ length l
unfolding latest
length-latest [] = refl
length-latest (y ∷ l) = ap suc (length-latest l)

-- what is not in the list is not in it, but for 0
absent : (l : List ℕ) (w : ℕ) → w ≢ 0 → has w l ≡ false → has w (latest l) ≡ false
unfolding latest has
absent [] w nz e = refl
absent (y ∷ l) w nz e =
    let s = or_split (eqb w y) (has w l) e in
    rw (absent l w nz s.1, ne_eqb w (cond (has y l) 0 y) (other (has y l))) refl
  where
    other : (b : Bool) → w ≢ cond b 0 y
    other true q = nz q
    other false q = eqb-false w y (or_split (eqb w y) (has w l) e).0 q

pub latest-once : (l : List ℕ) → once (latest l) ≡ true
unfolding latest once
latest-once [] = refl
latest-once (y ∷ l) = rw (latest-once l) (here (has y l) refl)
  where
    any : (b : Bool) → ((b || true) && true) ≡ true
    any true = refl
    any false = refl

    nil-or : (z : ℕ) → (z ≢ 0 → has z (latest l) ≡ false) → ((is_nil z || not (has z (latest l))) && true) ≡ true
    nil-or zero h = unfold is_nil in refl
    nil-or (suc z) h = rw (h (λ q. omega (arith, q))) (any (is_nil (suc z)))

    here : (b : Bool) → has y l ≡ b → ((is_nil (cond b 0 y) || not (has (cond b 0 y) (latest l))) && true) ≡ true
    here true e = nil-or 0 (λ h. absurd (h refl))
    here false e = nil-or y (λ nz. absent l y nz e)

-- a list that has no number twice is so already
pub latest-same : (l : List ℕ) → once l ≡ true → latest l ≡ l
unfolding latest
latest-same [] e = refl
latest-same (y ∷ l) e = ap₂ (λ (z : ℕ) (m : List ℕ). z ∷ m) (here (ℕ_discrete y 0)) (latest-same l (once-rest y l e))
  where
    back : (b : Bool) → ◌≡◌ {A = ℕ} (cond b 0 0) 0
    back true = refl
    back false = refl

    here : Dec (y ≡ 0) → cond (has y l) 0 y ≡ y
    here (yes q) = ap (λ (z : ℕ). cond (has y l) 0 z) q ∙ back (has y l) ∙ sym q
    here (no q) = rw (once-other y l e q) refl

pub latest-empty : (l : List ℕ) → ((k : ℕ) → get_or l k 0 ≡ 0) → (k : ℕ) → get_or (latest l) k 0 ≡ 0
unfolding latest
latest-empty [] h k = h k
latest-empty (y ∷ l) h zero = ap (λ (z : ℕ). cond (has y l) 0 z) (h 0) ∙ back (has y l)
  where
    back : (b : Bool) → ◌≡◌ {A = ℕ} (cond b 0 0) 0
    back true = refl
    back false = refl
latest-empty (y ∷ l) h (suc k) = latest-empty l (λ j. h (suc j)) k

-- ---- the places filled

-- the places of both lists are the same but for 0, if what was there was the same but for 0 and for what is listed
placed-latest : (l : List ℕ) (k : ℕ) (a b : List ℕ) → length a ≡ length b → ((w : ℕ) → w ≢ 0 → has w l ≡ false → get_or a w 0 ≡ get_or b w 0)
    → (w : ℕ) → w ≢ 0 → get_or (placed k l a) w 0 ≡ get_or (placed k (latest l) b) w 0
unfolding placed latest
placed-latest [] k a b e h w nz = h w nz (unfold has in refl)
placed-latest (y ∷ l) k a b e h w nz =
    placed-latest l (suc k) (set a y (suc k)) (set b (cond (has y l) 0 y) (suc k))
    (length-set a y (suc k) ∙ e ∙ sym (length-set b (cond (has y l) 0 y) (suc k))) here w nz
  where
    same : (v : ℕ) → v ≡ y → has v l ≡ false → get_or (set a y (suc k)) v 0 ≡ get_or (set b (cond (has y l) 0 y) (suc k)) v 0
    same v q f = rw (q, rw q at f) (go (dec_lt y (length a)))
      where
        go : Dec (y < length a) → get_or (set a y (suc k)) y 0 ≡ get_or (set b y (suc k)) y 0
        go (yes p) = get_or-set_same a y (suc k) 0 p ∙ sym (get_or-set_same b y (suc k) 0 (rw e at p))
        go (no p) =
            get_or-eq_default (set a y (suc k)) 0 (omega (arith, length-set a y (suc k), p))
            ∙ sym (get_or-eq_default (set b y (suc k)) 0 (omega (arith, length-set b y (suc k), e, p)))

    apart : (v : ℕ) (c : Bool) → v ≢ 0 → v ≢ y → v ≢ cond c 0 y
    apart v true z d = z
    apart v false z d = d

    here : (v : ℕ) → v ≢ 0 → has v l ≡ false → get_or (set a y (suc k)) v 0 ≡ get_or (set b (cond (has y l) 0 y) (suc k)) v 0
    here v z f = go (ℕ_discrete v y)
      where
        go : Dec (v ≡ y) → get_or (set a y (suc k)) v 0 ≡ get_or (set b (cond (has y l) 0 y) (suc k)) v 0
        go (yes q) = same v q f
        go (no q) =
            get_or-set_other a y v (suc k) 0 q ∙ h v z (unfold has in (rw (ne_eqb v y q, f) refl))
            ∙ sym (get_or-set_other b (cond (has y l) 0 y) v (suc k) 0 (apart v (has y l) z q))

-- so the table that the code makes is that of the last places
pub table-latest : (l place : List ℕ) → 1 ≤ length place → set (placed 0 l place) 0 0 ≡ set (placed 0 (latest l) place) 0 0
table-latest l place p =
    ext_get_or 0 (set (placed 0 l place) 0 0) (set (placed 0 (latest l) place) 0 0) (long l ∙ sym (long (latest l))) (λ i q. go i (ℕ_discrete i 0))
  where
    long : (m : List ℕ) → length (set (placed 0 m place) 0 0) ≡ length place
    long m = length-set (placed 0 m place) 0 0 ∙ length-placed m 0 place

    zero_of : (m : List ℕ) → get_or (set (placed 0 m place) 0 0) 0 0 ≡ 0
    zero_of m = get_or-set_same (placed 0 m place) 0 0 0 (omega (arith, length-placed m 0 place, p))

    go : (i : ℕ) → Dec (i ≡ 0) → get_or (set (placed 0 l place) 0 0) i 0 ≡ get_or (set (placed 0 (latest l) place) 0 0) i 0
    go i (yes q) = rw q (zero_of l ∙ sym (zero_of (latest l)))
    go i (no q) =
        get_or-set_other (placed 0 l place) 0 i 0 0 q ∙ placed-latest l 0 place place refl (λ w nz f. refl) i q
        ∙ sym (get_or-set_other (placed 0 (latest l) place) 0 i 0 0 q)

-- ---- the 64 places

module _ (list : List ℕ) where
  pub places-latest : take sink_max (last_places list) ≡ last_places list
  unfolding last_places
  places-latest =
      take_all sink_max (latest (take sink_max list)) (let e = length-latest (take sink_max list) in let m = length-take sink_max list in omega arith)

  pub places-once : once (take sink_max (last_places list)) ≡ true
  places-once = ap once places-latest ∙ (unfold last_places in (latest-once (take sink_max list)))

  -- of a list that has no number twice they are the list's
  pub places_same : once (take sink_max list) ≡ true → take sink_max (last_places list) ≡ take sink_max list
  places_same o = places-latest ∙ (unfold last_places in (latest-same (take sink_max list) o))

-- what `fill_sets` leaves, and what `sets_ok` answers, of such a list
pub fill-exact : (n : ℕ) (recs slots list sets next : List ℕ)
    → next ≡ cond (leb n object_max) (exact_sets (heap_in n recs slots (last_places list)) sets) sets
    → n ≤ object_max → once (take sink_max list) ≡ true → next ≡ exact_sets (heap_in n recs slots list) sets
fill-exact n recs slots list sets next e p o =
    e ∙ rw (le-leb n object_max p) (ap (λ (l : List ℕ). exact_sets (listing l (view n recs slots)) sets) (places_same list o))

pub sets-exact : (n : ℕ) (recs slots list sets : List ℕ) (b : Bool)
    → b ≡ leb n object_max && (not (short n sets) && sets_ok n recs slots (last_places list) sets)
    → n ≤ object_max → n ≤ length sets → once (take sink_max list) ≡ true → b ≡ sets_ok n recs slots list sets
unfolding sets_ok short
sets-exact n recs slots list sets b e p q o =
    e ∙ rw (le-leb n object_max p, le-ltb (length sets) n q)
    (ap (λ (l : List ℕ). all_to n (λ h. eqb (rec_of n sets h) (set_word (listing l (view n recs slots)) h))) (places_same list o))
