-- The whole walk: the state that it begins with, and that it ends where the definition ends.
-- Assumes nothing.
use Prim.Native.Nat.{ℕ, ◌+◌, ◌-◌, ◌*◌, ◌<◌, ◌≤◌}
use mathlib.Core.Path.{◌≡◌, refl, sym, ap, ◌∙◌, subst}
use mathlib.Core.Logic.{◌≢◌}
use mathlib.Core.Bool.{Bool, true, false, not, cond, true≢false}
use mathlib.Core.List.Memᴰ
use mathlib.Core.List.{List, [], ◌∷◌, ◌++◌, append-nil, Memᴰ}
use native.Mathlib.Omega.{arith}
use borrow.Author.Tests.{ne_eqb}
use borrow.Rule.Slice.PartMut.{mid_of, post_of, put_mid, mid_len}
use lib.ListN.{length, get_or, take, drop, length-drop}
use lib.Seq.{get_or-append-add, get_or-drop, get_or-take, take_at, drop_at, take-add, length-take-le}
use Rattle.layout.specs.Limits.{work_len}
use Rattle.graph.specs.Numbers.{Obj, count}
use Rattle.graph.specs.Heap.{pointers, targets}
use Rattle.graph.specs.Trace.{Flags, marked, postponed, Walk, no_flags, begin, finish, traced}
use Rattle.graph.proofs.NumberLaws.{sum-most, count_none, in_left, in_right}
use Rattle.graph.proofs.ReachLaws.{length-pointers}
use Rattle.rules.specs.Buffers.{zeros}
use Rattle.rules.specs.View.{view}
use Rattle.rules.proofs.ViewLaws.{view-kids}
use Rattle.rules.proofs.ListLaws.{length-each, get-each}
use Rattle.links.specs.Links.{linked_at, link_word, links, linkable}
use Rattle.links.proofs.LinkLaws.{linked}
use Rattle.table.specs.Cleared.{cleared}
use Rattle.postponed.proofs.PostponedLaws.{mapped-none}
use Rattle.walk.specs.Marks.{flags_of}
use Rattle.walk.specs.State.{Way, walked_heap, walk_at, end_from, Objects, link_at, Linked, Ready, Followed, Finished, Traceable, Walked}
use Rattle.walk.proofs.MarkLaws.{unflagged-flags}
use Rattle.walk.proofs.PendingLaws.{pointers-append}
use Rattle.walk.proofs.EndLaws.{objects-none, roots-next, followed-none, followed-as, followed_then, none-pending}

-- ---- one root

root_none : (w : ℕ) → w ≡ 0 → pointers (w ∷ []) ≡ []
unfolding pointers
root_none w e = rw e refl

root-one : (w : ℕ) → w ≢ 0 → pointers (w ∷ []) ≡ w ∷ []
unfolding pointers
root-one w e = rw (ne_eqb w 0 e) refl

root-named : (n w : ℕ) → w ≢ 0 → Objects n (pointers (w ∷ [])) → Obj n w
root-named n w e h = h w (subst (λ (l : List ℕ). Memᴰ w l) (sym (root-one w e)) (Memᴰ.head refl))

-- ---- the loops over the starts

module _ (by : Way) (n : ℕ) (slots recs₀ : List ℕ) where
  pub roots-begin : (work roots : List ℕ) → Ready by n recs₀ slots work (8 * n) → Followed by n slots recs₀ (pointers (take 0 roots)) recs₀ work
  unfolding pointers
  roots-begin work roots r = followed-none by n slots recs₀ work r (pointers (take 0 roots)) refl

  module _ (roots : List ℕ) (r i : ℕ) (less : i < r) (long : r ≤ length roots) (objects : Objects n (pointers (take r roots))) where
    roots-object : Objects n (pointers (get_or roots i 0 ∷ []))
    roots-object x m =
        objects x
        (subst (λ (l : List ℕ). Memᴰ x l) (sym parts)
        (in_left x (pointers (take (i + 1) roots)) (pointers (take (r - (i + 1)) (drop (i + 1) roots)))
        (subst (λ (l : List ℕ). Memᴰ x l) (sym (roots-next roots i (omega arith))) (in_right x (pointers (take i roots)) (pointers (get_or roots i 0 ∷ [])) m))))
      where
        parts : pointers (take r roots) ≡ pointers (take (i + 1) roots) ++ pointers (take (r - (i + 1)) (drop (i + 1) roots))
        parts =
            let e : r ≡ i + 1 + (r - (i + 1)) = omega arith in
            ap (λ (k : ℕ). pointers (take k roots)) e
            ∙ ap pointers (take-add (i + 1) (r - (i + 1)) roots)
            ∙ pointers-append (take (i + 1) roots) (take (r - (i + 1)) (drop (i + 1) roots))

    roots-on : (recs₁ work₁ recs₂ work₂ : List ℕ) → Followed by n slots recs₀ (pointers (take i roots)) recs₁ work₁
        → Followed by n slots recs₁ (pointers (get_or roots i 0 ∷ [])) recs₂ work₂ → Followed by n slots recs₀ (pointers (take (i + 1) roots)) recs₂ work₂
    roots-on recs₁ work₁ recs₂ work₂ f g =
        followed-as by n slots recs₀ _ _ recs₂ work₂ (roots-next roots i (omega arith))
        (followed_then by n slots recs₀ (pointers (take i roots)) (pointers (get_or roots i 0 ∷ [])) recs₁ work₁ recs₂ work₂ roots-object f g)

    pub root-object : get_or roots i 0 ≢ 0 → Obj n (get_or roots i 0)
    root-object e = root-named n (get_or roots i 0) e roots-object

    -- the root at i names no object
    pub root-passed : get_or roots i 0 ≡ 0 → (recs₁ work₁ : List ℕ) → Followed by n slots recs₀ (pointers (take i roots)) recs₁ work₁
        → Followed by n slots recs₀ (pointers (take (i + 1) roots)) recs₁ work₁
    root-passed e recs₁ work₁ f =
        roots-on recs₁ work₁ recs₁ work₁ f (followed-none by n slots recs₁ work₁ f.ready (pointers (get_or roots i 0 ∷ [])) (root_none (get_or roots i 0) e))

    -- it names one
    pub root-followed : get_or roots i 0 ≢ 0 → (recs₁ work₁ recs₂ work₂ : List ℕ) → Followed by n slots recs₀ (pointers (take i roots)) recs₁ work₁
        → Followed by n slots recs₁ (get_or roots i 0 ∷ []) recs₂ work₂ → Followed by n slots recs₀ (pointers (take (i + 1) roots)) recs₂ work₂
    root-followed e recs₁ work₁ recs₂ work₂ f g =
        roots-on recs₁ work₁ recs₂ work₂ f (followed-as by n slots recs₁ _ _ recs₂ work₂ (root-one (get_or roots i 0) e) g)

-- a loop that has come to its end
pub followed-at : (by : Way) (n : ℕ) (slots recs : List ℕ) (from : ℕ → List ℕ) (i k : ℕ) (recs' work' : List ℕ) → i ≤ k → k ≤ i
    → Followed by n slots recs (from i) recs' work' → Followed by n slots recs (from k) recs' work'
followed-at by n slots recs from i k recs' work' a b f =
    let e : k ≡ i = omega arith in
    followed-as by n slots recs (from i) (from k) recs' work' (ap from e) f

-- ---- the state at the start

module _ (a b : ℕ) (l : List ℕ) (fits : a ≤ length l) where
  cleared-under : (i : ℕ) → i < a → get_or (cleared a b l) i 0 ≡ get_or l i 0
  unfolding cleared
  cleared-under i p =
      sym (get_or-take a (cleared a b l) i 0 p)
      ∙ ap (λ (x : List ℕ). get_or x i 0) (take_at (take a l) (zeros (b - a) (drop a l)) a (length-take-le a l fits))
      ∙ get_or-take a l i 0 p

  cleared-zero : (i : ℕ) → a ≤ i → i < b → b ≤ length l → get_or (cleared a b l) i 0 ≡ 0
  unfolding cleared zeros
  cleared-zero i p q r =
      let e : i ≡ a + (i - a) = omega arith in
      ap (λ (k : ℕ). get_or (cleared a b l) k 0) e
      ∙ sym (get_or-drop a (cleared a b l) (i - a) 0)
      ∙ ap (λ (x : List ℕ). get_or x (i - a) 0) (drop_at (take a l) (zeros (b - a) (drop a l)) a (length-take-le a l fits))
      ∙ get-each 0 (b - a) (λ x w. 0) (drop a l) (i - a) 0 (omega arith) (omega (arith, length-drop a l))

unless-le : (b : Bool) (x : ℕ) → cond b 0 x ≤ x
unless-le true x = omega arith
unless-le false x = omega arith

module _ (by : Way) (n : ℕ) (from recs slots work : List ℕ) (t : Traceable by n from recs slots work) where
  clear-flags : flags_of n recs ≡ no_flags
  clear-flags = unflagged-flags n recs t.sized.room.recs-long t.clear

  targets-short : (x : ℕ) → length (targets (view n recs slots) x) ≤ 8
  targets-short x = omega (arith, length-pointers ((view n recs slots).kids x), view-kids n recs slots x)

  pub trace-ready : (work₁ work₂ : List ℕ) → Linked by.clustered n recs work₁ → length work₁ ≡ length work → work₂ ≡ cleared (9 * n) (work_len n) work₁
      → length work₂ ≡ length work₁ → Ready by n recs slots work₂ (8 * n)
  unfolding work_len no_flags
  trace-ready work₁ work₂ l e₁ c e₂ =
      let z = t.sized in
      let long : 10 * n + 64 ≤ length work₁ = omega (arith, z.work-long) in
      record {
        state =
            record {
              sized =
                  record { room = z.room; work-long = omega (arith, z.work-long); widths = z.widths };
              high = omega arith;
              room =
                  sum-most n 8 (λ x. cond (flags_of n recs marked x) 0 (length (targets (view n recs slots) x)))
                  (λ x b. omega (arith, unless-le (flags_of n recs marked x) (length (targets (view n recs slots) x)), targets-short x));
              inside = λ x m. absurd (Memᴰ.not-nil (subst (λ (y : List ℕ). Memᴰ x y) (none-pending n work₂) m));
              mapped =
                  mapped-none n (flags_of n recs postponed) work₂ z.room.most
                  (λ i p q. ap (λ (y : List ℕ). get_or y i 0) c ∙ cleared-zero (9 * n) (10 * n + 64) work₁ (omega arith) i p q long)
                  (λ i. ap (λ (f : Flags). f postponed i) clear-flags);
            };
        linked =
            record {
              links = λ e x b.
                  ap (λ (y : List ℕ). get_or y (8 * n + (x - 1)) 0) c
                  ∙ cleared-under (9 * n) (10 * n + 64) work₁ (omega arith) (8 * n + (x - 1)) (omega arith)
                  ∙ l.links e x b;
            };
        listing = t.listing;
      }

  -- ---- the end

  walk-begin : walk_at n recs (pointers from) ≡ begin (walked_heap by n recs slots) from
  unfolding begin no_flags
  walk-begin =
      let c : count n (λ x. flags_of n recs marked x) ≡ 0 = count_none n (λ x. flags_of n recs marked x) (λ x b. ap (λ (f : Flags). f marked x) clear-flags) in
      ap (λ (k : ℕ). record { flags = flags_of n recs; todo = pointers from; scanned = k }) c
      ∙ ap (λ (f : Flags). record { flags = f; todo = pointers from; scanned = 0 }) clear-flags

  pub walk-done : (recs₁ work₁ recs₂ : List ℕ) → Followed by n slots recs (pointers from) recs₁ work₁ → Finished by n slots recs₁ recs₂
      → Walked by n from recs slots recs₂
  unfolding traced
  walk-done recs₁ work₁ recs₂ a e =
      record { flags-now = ap (λ (w : Walk). w.flags) whole; counted = ap (λ (w : Walk). w.scanned) whole; kept = e.kept ∙ a.kept ∙ t.clear }
    where
      whole : walk_at n recs₂ [] ≡ traced (walked_heap by n recs slots) from
      whole =
          e.same
          ∙ a.same [] (objects-none n)
          ∙ ap (end_from by n slots recs) (append-nil (pointers from))
          ∙ ap (finish (walked_heap by n recs slots)) walk-begin

-- ---- the links

-- where clusters are not walked there are none
pub unlinked : (by : Bool) (n : ℕ) (recs work : List ℕ) → not by ≡ true → Linked by n recs work
unlinked true n recs work e = absurd (true≢false (sym e))
unlinked false n recs work e = record { links = λ q x b. absurd (true≢false (sym q)) }

-- the link words in their part of the work words
pub linked-part : (by : Bool) (n : ℕ) (recs work : List ℕ) → (n ≤ 4095) × (n ≤ length recs) × (9 * n ≤ length work) → (ys : List ℕ)
    → ys ≡ cond (linkable n recs (mid_of (8 * n) (9 * n - 8 * n) work)) (links n (linked_at true n recs) (mid_of (8 * n) (9 * n - 8 * n) work)) (mid_of (8 * n) (9 * n - 8 * n) work)
    → Linked by n recs (put_mid (8 * n) (9 * n - 8 * n) work ys)
unfolding links
linked-part by n recs work l ys e = record { links = λ q x b. at x b }
  where
    mid : List ℕ
    mid = mid_of (8 * n) (9 * n - 8 * n) work

    mid-long : length mid ≡ n
    mid-long = mid_len (8 * n) (9 * n) work (omega (arith, l.2)) ∙ omega arith

    ys-are : ys ≡ links n (linked_at true n recs) mid
    ys-are = e ∙ sym (linked n (linked_at true n recs) recs mid l.0 l.1 (omega (arith, mid-long)))

    ys-long : length ys ≡ n
    ys-long = ap length ys-are ∙ length-each 1 n (λ x w. link_word n (linked_at true n recs) x) mid ∙ mid-long

    front_long : length (take (8 * n) work) ≡ 8 * n
    front_long = length-take-le (8 * n) work (omega (arith, l.2))

    post : List ℕ
    post = post_of (8 * n) (9 * n - 8 * n) work

    at : (x : ℕ) → Obj n x → link_at n (put_mid (8 * n) (9 * n - 8 * n) work ys) x ≡ link_word n (linked_at true n recs) x
    at x b =
        let s : 1 + (x - 1) ≡ x = omega arith in
        ap (λ (k : ℕ). get_or (take (8 * n) work ++ (ys ++ post)) (k + (x - 1)) 0) (sym front_long)
        ∙ get_or-append-add (take (8 * n) work) (ys ++ post) (x - 1) 0
        ∙ sym (get_or-take n (ys ++ post) (x - 1) 0 (omega arith))
        ∙ ap (λ (m : List ℕ). get_or m (x - 1) 0) (take_at ys post n ys-long ∙ ys-are)
        ∙ get-each 1 n (λ y w. link_word n (linked_at true n recs) y) mid (x - 1) 0 (omega arith) (omega (arith, mid-long))
        ∙ ap (link_word n (linked_at true n recs)) s
