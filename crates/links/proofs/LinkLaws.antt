-- The link words are emptied, and the members of each cluster are linked from the highest down.
-- Assumes nothing.
use Prim.Native.Nat.{ℕ, zero, suc, ◌+◌, ◌-◌, ◌*◌, ◌/◌, ◌%◌, ◌^◌, ◌≤◌, ◌<◌}
use mathlib.Core.Path.{◌≡◌, refl, sym, ap, ap₂, ◌∙◌}
use mathlib.Core.Bool.{Bool, true, false, cond, false≢true}
use mathlib.Core.List.{List}
use mathlib.Core.Logic.{◌≢◌}
use native.Mathlib.Decide.{ℕ_discrete, dec_le}
use native.Mathlib.Omega.{arith}
use lib.ListN.{length, get_or, set, drop, length-set}
use lib.Seq.{drop-set-lt}
use borrow.Author.Tests.{le-ltb}
use Rattle.layout.specs.Limits.{within}
use Rattle.layout.specs.Field.{field, flag}
use Rattle.layout.proofs.LimitLaws.{within-true, in_within}
use Rattle.graph.specs.Numbers.{upd}
use Rattle.graph.proofs.NumberLaws.{upd_same, upd_other}
use Rattle.rules.specs.Buffers.{rec_of, short, each_from, each_record, zeros}
use Rattle.rules.proofs.StoreLaws.{rec_of-zero}
use Rattle.rules.proofs.BufferLaws.{zeros-from}
use Rattle.rules.proofs.ListLaws.{rec_of-above, rec_of-each, drop_past}
use Rattle.rules.proofs.PlaceLaws.{rec-put, by-object}
use Rattle.rules.proofs.BufferLaws.{rec_of-get}
use Rattle.links.specs.Links.{top_member, linked_in, linked_at, next_member, link_word, links, linkable}
use Rattle.links.specs.Linking.{first_at, next_at, Linking}
use Rattle.links.proofs.MemberOrder.{top-le, top_up, top-own, next-is}

-- ---- empty words

-- 0 is no object, and linked nowhere
pub none-linked : (outs : Bool) (n : ℕ) (recs : List ℕ) → linked_at outs n recs 0 ≡ 0
unfolding field flag
none-linked true n recs = rw (rec_of-zero n recs) refl
none-linked false n recs = rw (rec_of-zero n recs) refl

module _ (n : ℕ) (work : List ℕ) (long : n ≤ length work) where
  -- n words set to 0
  pub zeros-none : (x : ℕ) → rec_of n (zeros n work) x ≡ 0
  unfolding each_record
  zeros-none zero = rec_of-zero n (zeros n work)
  zeros-none (suc x) = ap (λ (l : List ℕ). rec_of n l (suc x)) (sym (zeros-from 1 n work)) ∙ go (dec_le (suc x) n)
    where
      go : Dec (suc x ≤ n) → rec_of n (each_from 1 n (λ y w. 0) work) (suc x) ≡ 0
      go (yes q) = rec_of-each n (λ y w. 0) work (suc x) (omega arith) q long
      go (no q) = rec_of-above n (each_from 1 n (λ y w. 0) work) (suc x) (omega (arith, q))

  pub zeros-past : drop n (zeros n work) ≡ drop n work
  unfolding zeros
  zeros-past = drop_past 0 n (λ i w. 0) work

module _ (n : ℕ) (work : List ℕ) where
  pub link_start : (cl : ℕ → ℕ) → cl 0 ≡ 0 → ((x : ℕ) → rec_of n work x ≡ 0) → Linking n cl work 0
  unfolding top_member next_member within
  link_start cl z h = record {
    first = λ d p q. ap (λ (w : ℕ). w / 4096) (h d);
    next = λ x p. ap (λ (w : ℕ). w % 4096) (h x) ∙ none x p;
    blank = λ x p. ap (λ (w : ℕ). w % 4096) (h x);
  }
    where
      none : (x : ℕ) → x ≤ 0 → 0 ≡ next_member n cl x
      none zero p = rw z refl
      none (suc x) p = absurd (omega arith)

-- ---- one object

module _ (n : ℕ) (outs : Bool) (recs work : List ℕ) (x : ℕ) (most : n ≤ 4095) (long : n ≤ length work) (p : 1 ≤ x) (q : x ≤ n)
    (L : Linking n (linked_at outs n recs) work (x - 1)) (d : ℕ) (is : d ≡ linked_in outs (get_or recs (x - 1) 0)) where
  abbrev cl : ℕ → ℕ
  cl = linked_at outs n recs

  own : d ≡ cl x
  own = is ∙ ap (linked_in outs) (sym (rec_of-get n recs x p q))

  pub link-none : (b : Bool) → b ≡ within 1 n d → b ≡ false → Linking n cl work x
  unfolding next_member
  link-none b e f = record {
    first = λ c r s. L.first c r s ∙ sym (top_up cl c x p (λ g. false≢true (sym (sym e ∙ f) ∙ in_within 1 n d (let z : d ≢ 0 = λ z. r (sym g ∙ sym own ∙ z) in omega (arith, z)) (rw (own, g) s))));
    next = λ y r. lower y r (ℕ_discrete y x);
    blank = λ y r. L.blank y (omega arith);
  }
    where
      lower : (y : ℕ) → y ≤ x → Dec (y ≡ x) → next_at n work y ≡ next_member n cl y
      lower y r (yes g) = rw (g, L.blank x (omega arith), ← own, ← e, f) refl
      lower y r (no g) = L.next y (omega (arith, g))

  module _ (b : Bool) (e : b ≡ within 1 n d) (t : b ≡ true) where
    fits : (1 ≤ d) × (d ≤ n)
    fits = within-true 1 n d (sym e ∙ t)

    some : d ≢ 0
    some z = absurd (omega (arith, fits.0))

    here : get_or work (x - 1) 0 ≡ rec_of n work x
    here = sym (rec_of-get n work x p q)

    there : (l : List ℕ) → get_or l (d - 1) 0 ≡ rec_of n l d
    there l = sym (rec_of-get n l d fits.0 fits.1)

    first_small : first_at n work d < 4096
    first_small = omega (arith, L.first d some fits.1, top-le cl d (x - 1))

    pub link-low : 1 ≤ d
    link-low = fits.0

    pub link-index : d - 1 < length work
    link-index = omega (arith, fits.0, fits.1)

    pub link-sum : get_or work (x - 1) 0 + get_or work (d - 1) 0 / 4096 < 2 ^ 32
    link-sum = omega (arith, here, there work, first_small, L.first x (λ e. absurd (omega arith)) q, top-le cl x (x - 1))

    abbrev pub one : List ℕ
    one = set work (x - 1) (get_or work (x - 1) 0 + get_or work (d - 1) 0 / 4096)

    abbrev pub two : List ℕ
    two = set one (d - 1) (get_or one (d - 1) 0 % 4096 + 4096 * x)

    pub link-beyond : drop n two ≡ drop n work
    link-beyond =
        drop-set-lt n one (d - 1) (get_or one (d - 1) 0 % 4096 + 4096 * x) (omega (arith, fits.0, fits.1))
        ∙ drop-set-lt n work (x - 1) (get_or work (x - 1) 0 + get_or work (d - 1) 0 / 4096) (omega arith)

    one_at : (y : ℕ) → rec_of n one y ≡ upd (rec_of n work) x (rec_of n work x + first_at n work d) y
    one_at y =
        ap (λ (w : ℕ). rec_of n (set work (x - 1) w) y) (ap₂ (λ (v w : ℕ). v + w / 4096) here (there work))
        ∙ rec-put n work x (rec_of n work x + first_at n work d) p q long y

    two_at : (y : ℕ) → rec_of n two y ≡ upd (rec_of n one) d (rec_of n one d % 4096 + 4096 * x) y
    two_at y =
        ap (λ (w : ℕ). rec_of n (set one (d - 1) w) y) (ap (λ (v : ℕ). v % 4096 + 4096 * x) (there one))
        ∙ rec-put n one d (rec_of n one d % 4096 + 4096 * x) fits.0 fits.1 (simp length-set (omega arith)) y

    one-next : (y : ℕ) → next_at n one y ≡ upd (next_at n work) x (first_at n work d) y
    one-next y = ap (λ (w : ℕ). w % 4096) (one_at y) ∙ go (ℕ_discrete y x)
      where
        go : Dec (y ≡ x) → upd (rec_of n work) x (rec_of n work x + first_at n work d) y % 4096 ≡ upd (next_at n work) x (first_at n work d) y
        go (yes e) =
            rw (e, upd_same (rec_of n work) x (rec_of n work x + first_at n work d), upd_same (next_at n work) x (first_at n work d))
            (omega (arith, L.blank x (omega arith), first_small))
        go (no e) = rw (upd_other (rec_of n work) x y (rec_of n work x + first_at n work d) e, upd_other (next_at n work) x y (first_at n work d) e) refl

    one-first : (y : ℕ) → first_at n one y ≡ first_at n work y
    one-first y = ap (λ (w : ℕ). w / 4096) (one_at y) ∙ go (ℕ_discrete y x)
      where
        go : Dec (y ≡ x) → upd (rec_of n work) x (rec_of n work x + first_at n work d) y / 4096 ≡ first_at n work y
        go (yes e) =
            rw (e, upd_same (rec_of n work) x (rec_of n work x + first_at n work d)) (omega (arith, L.blank x (omega arith), first_small))
        go (no e) = rw (upd_other (rec_of n work) x y (rec_of n work x + first_at n work d) e) refl

    two-next : (y : ℕ) → next_at n two y ≡ next_at n one y
    two-next y = ap (λ (w : ℕ). w % 4096) (two_at y) ∙ go (ℕ_discrete y d)
      where
        go : Dec (y ≡ d) → upd (rec_of n one) d (rec_of n one d % 4096 + 4096 * x) y % 4096 ≡ next_at n one y
        go (yes e) = rw (e, upd_same (rec_of n one) d (rec_of n one d % 4096 + 4096 * x)) (omega arith)
        go (no e) = rw (upd_other (rec_of n one) d y (rec_of n one d % 4096 + 4096 * x) e) refl

    two-first : (y : ℕ) → first_at n two y ≡ upd (first_at n work) d x y
    two-first y = ap (λ (w : ℕ). w / 4096) (two_at y) ∙ go (ℕ_discrete y d)
      where
        go : Dec (y ≡ d) → upd (rec_of n one) d (rec_of n one d % 4096 + 4096 * x) y / 4096 ≡ upd (first_at n work) d x y
        go (yes e) =
            rw (e, upd_same (rec_of n one) d (rec_of n one d % 4096 + 4096 * x), upd_same (first_at n work) d x) (omega arith)
        go (no e) =
            rw (upd_other (rec_of n one) d y (rec_of n one d % 4096 + 4096 * x) e, upd_other (first_at n work) d y x e) (one-first y)

    pub link-done : Linking n cl two x
    link-done = record {
      first = λ c r s. two-first c ∙ head c r s (ℕ_discrete c d);
      next = λ y r. two-next y ∙ one-next y ∙ lower y r (ℕ_discrete y x);
      blank = λ y r. two-next y ∙ one-next y ∙ upd_other (next_at n work) x y (first_at n work d) (λ (e : y ≡ x). absurd (omega arith)) ∙ L.blank y (omega arith);
    }
      where
        head : (c : ℕ) → c ≢ 0 → c ≤ n → Dec (c ≡ d) → upd (first_at n work) d x c ≡ top_member cl c x
        head c r s (yes e) = rw (e, upd_same (first_at n work) d x) (sym (top-own cl d x p (sym own)))
        head c r s (no e) =
            upd_other (first_at n work) d c x e ∙ L.first c r s ∙ sym (top_up cl c x p (λ g. e (sym g ∙ sym own)))

        lower : (y : ℕ) → y ≤ x → Dec (y ≡ x) → upd (next_at n work) x (first_at n work d) y ≡ next_member n cl y
        lower y r (yes e) =
            rw (e, upd_same (next_at n work) x (first_at n work d), next-is n cl x d (sym own) fits.0 fits.1) (L.first d some fits.1)
        lower y r (no e) = upd_other (next_at n work) x y (first_at n work d) e ∙ L.next y (omega (arith, e))

-- ---- the whole pass

pub link-end : (n : ℕ) (cl : ℕ → ℕ) (work₀ work : List ℕ) → length work ≡ length work₀ → n ≤ length work₀ → drop n work ≡ drop n work₀ → Linking n cl work n
    → work ≡ links n cl work₀
unfolding links link_word
link-end n cl work₀ work e long rest L =
    by-object n (λ x w. link_word n cl x) work₀ work e long rest
    (λ x p q.
    let a = L.first x (λ z. absurd (omega arith)) q in
    let b = L.next x q in
    let s : rec_of n work x ≡ next_at n work x + 4096 * first_at n work x = omega arith in
    s ∙ ap₂ (λ (u v : ℕ). u + 4096 * v) b a)

-- ---- where n is a size and no slice is too short

module _ (n : ℕ) (cl : ℕ → ℕ) (recs work : List ℕ) where
  pub linked : n ≤ 4095 → n ≤ length recs → n ≤ length work → links n cl work ≡ cond (linkable n recs work) (links n cl work) work
  unfolding linkable short
  linked p q h = rw (le-ltb 4095 n p, le-ltb (length recs) n q, le-ltb (length work) n h) refl
