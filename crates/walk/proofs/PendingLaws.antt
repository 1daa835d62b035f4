-- The pointers among some words, and the pending objects in the work words.
-- Assumes nothing.
use Prim.Native.Nat.{ℕ, zero, suc, ◌+◌, ◌-◌, ◌*◌, ◌<◌, ◌≤◌}
use mathlib.Core.Path.{◌≡◌, refl, sym, ap, ◌∙◌}
use mathlib.Core.Bool.{Bool, true, false, cond, true≢false}
use mathlib.Core.List.{List, [], ◌∷◌, ◌++◌, map, append-nil, map-append}
use native.Mathlib.Omega.{arith}
use native.Mathlib.Decide.{dec_le}
use borrow.Author.Tests.{le-leb, lt-leb, ne_eqb}
use lib.Dec.{eqb, leb}
use lib.ListN.{length, get_or, take, drop, set, length-append, length-set, length-drop}
use lib.Seq.{get_or-take, take-take, get_or-drop, take-suc, take-append-add, drop-append-add, drop-drop, drop-cons, get_or-set_same, drop-set-lt}
use lib.Seq.{append_snoc, slice, take-add, drop_at, length-take-le}
use Rattle.layout.specs.Limits.{within}
use Rattle.layout.proofs.LimitLaws.{within-true, in_within}
use Rattle.graph.specs.Heap.{pointers}
use Rattle.rules.specs.View.{target}
use Rattle.walk.specs.State.{pointers_in, pending, Pushable, Pushed}

-- ---- the pointers among some words

pub pointers-append : (a b : List ℕ) → pointers (a ++ b) ≡ pointers a ++ pointers b
unfolding pointers
pointers-append [] b = refl
pointers-append (w ∷ a) b = go (eqb w 0) (pointers-append a b)
  where
    go : (t : Bool) → pointers (a ++ b) ≡ pointers a ++ pointers b → cond t (pointers (a ++ b)) (w ∷ pointers (a ++ b)) ≡ cond t (pointers a) (w ∷ pointers a) ++ pointers b
    go true e = e
    go false e = ap (λ (l : List ℕ). w ∷ l) e

in_kept : (n w : ℕ) → within 1 n w ≡ true → pointers_in n (w ∷ []) ≡ w ∷ []
unfolding pointers target
in_kept n w e = let b = within-true 1 n w e in rw (le-leb w n b.1, ne_eqb w 0 (omega arith)) refl

in-passed : (n w : ℕ) → within 1 n w ≡ false → pointers_in n (w ∷ []) ≡ []
unfolding pointers target
in-passed n w e = go w e (dec_le w n)
  where
    go : (w : ℕ) → within 1 n w ≡ false → Dec (w ≤ n) → cond (eqb (cond (leb w n) w 0) 0) [] (cond (leb w n) w 0 ∷ []) ≡ []
    go zero e d = rw (le-leb 0 n (omega arith)) refl
    go (suc w) e (yes l) = absurd (true≢false (sym (in_within 1 n (suc w) (omega arith) l) ∙ e))
    go (suc w) e (no g) = rw (lt-leb (suc w) n (omega (arith, g))) refl

-- ---- a list in front of the pending objects

module _
    (n : ℕ)
    (work work' ks : List ℕ)
    (top top' : ℕ)
    (front : drop top' work' ≡ ks ++ drop top work)
    (count : top' + length ks ≡ top)
    (high : top ≤ 8 * n)
  where
    pub pending-pushed : pending n work' top' ≡ ks ++ pending n work top
    pending-pushed =
        let e : 8 * n - top' ≡ length ks + (8 * n - top) = omega arith in
        ap (λ (l : List ℕ). take (8 * n - top') l) front
        ∙ ap (λ (k : ℕ). take k (ks ++ drop top work)) e
        ∙ take-append-add ks (drop top work) (8 * n - top)

    pub beyond-pushed : drop (8 * n) work' ≡ drop (8 * n) work
    beyond-pushed =
        let e : top' + (length ks + (8 * n - top)) ≡ 8 * n = omega arith in
        let d : top + (8 * n - top) ≡ 8 * n = omega arith in
        ap (λ (k : ℕ). drop k work') (sym e)
        ∙ sym (drop-drop (length ks + (8 * n - top)) top' work')
        ∙ ap (λ (l : List ℕ). drop (length ks + (8 * n - top)) l) front
        ∙ drop-append-add ks (drop top work) (8 * n - top)
        ∙ drop-drop (8 * n - top) top work
        ∙ ap (λ (k : ℕ). drop k work) d

-- a word stored just below
push-one : (work : List ℕ) (at w : ℕ) → 1 ≤ at → at ≤ length work → drop (at - 1) (set work (at - 1) w) ≡ w ∷ drop at work
push-one work at w a b =
    let e : suc (at - 1) ≡ at = omega arith in
    let l : at - 1 < length (set work (at - 1) w) = omega (arith, length-set work (at - 1) w) in
    drop-cons (set work (at - 1) w) (at - 1) 0 l
    ∙ ap (λ (x : ℕ). x ∷ drop (suc (at - 1)) (set work (at - 1) w)) (get_or-set_same work (at - 1) w 0 (omega arith))
    ∙ ap (λ (y : List ℕ). w ∷ y) (ap (λ (k : ℕ). drop k (set work (at - 1) w)) e ∙ drop-set-lt at work (at - 1) w (omega arith))

-- ---- the pointers of the words before the one at j, then that one

module _ (n : ℕ) (l : List ℕ) (j : ℕ) (in_list : j < length l) where
  last_word : pointers_in n (take (suc j) l) ≡ pointers_in n (take j l) ++ pointers_in n (get_or l j 0 ∷ [])
  last_word =
      ap (pointers_in n) (take-suc l j 0 in_list)
      ∙ ap pointers (map-append (target n) (take j l) (get_or l j 0 ∷ []))
      ∙ pointers-append (map (target n) (take j l)) (map (target n) (get_or l j 0 ∷ []))

  last-kept : within 1 n (get_or l j 0) ≡ true → (rest : List ℕ) → pointers_in n (take (suc j) l) ++ rest ≡ pointers_in n (take j l) ++ (get_or l j 0 ∷ rest)
  last-kept e rest = rw (last_word, in_kept n (get_or l j 0) e, append_snoc) refl

  last-passed : within 1 n (get_or l j 0) ≡ false → pointers_in n (take (suc j) l) ≡ pointers_in n (take j l)
  last-passed e = rw (last_word, in-passed n (get_or l j 0) e) (append-nil (pointers_in n (take j l)))

-- ---- the loop that pushes the pointers among the first k words of l

-- from j down, it ends with the same words as from the start of the loop
pub record Pushing (n : ℕ) (l : List ℕ) (k : ℕ) (work₀ : List ℕ) (top : ℕ) (work : List ℕ) (at j : ℕ) : Type 0 where
  pub rest : pointers_in n (take j l) ++ drop at work ≡ pointers_in n (take k l) ++ drop top work₀
  pub counted : at + length (pointers_in n (take k l)) ≡ top + length (pointers_in n (take j l))
  pub here : j ≤ k
  pub low : at ≤ top
  pub work-length : length work ≡ length work₀

pub pushing-here : (n : ℕ) (l : List ℕ) (k : ℕ) (work : List ℕ) (top : ℕ) → Pushing n l k work top work top k
pushing-here n l k work top = record { rest = refl; counted = refl; here = omega arith; low = omega arith; work-length = refl }

module _ (n : ℕ) (slots : List ℕ) (from k : ℕ) (work₀ : List ℕ) (top : ℕ) (p : Pushable n slots from k work₀ top) (work : List ℕ) (at j : ℕ) where
  abbrev l : List ℕ
  l = drop from slots

  module _ (i : Pushing n l k work₀ top work at j) (some : 0 < j) where
    word_at : get_or l (j - 1) 0 ≡ get_or slots (from + (j - 1)) 0
    word_at = get_or-drop from slots (j - 1) 0

    before : j - 1 < length l
    before = omega (arith, length-drop from slots, p.source, i.here)

    one_more : suc (j - 1) ≡ j
    one_more = omega arith

    module _ (w : ℕ) (is : w ≡ get_or slots (from + (j - 1)) 0) where
      pub pushing-passed : within 1 n w ≡ false → Pushing n l k work₀ top work at (j - 1)
      pushing-passed e =
          let q : pointers_in n (take j l) ≡ pointers_in n (take (j - 1) l) =
          rw one_more at (last-passed n l (j - 1) before (ap (within 1 n) (word_at ∙ sym is) ∙ e)) in
          record {
            rest = rw q at i.rest;
            counted = rw q at i.counted;
            here = omega (arith, i.here);
            low = i.low;
            work-length = i.work-length;
          }

      module _ (e : within 1 n w ≡ true) where
        kept : (r : List ℕ) → pointers_in n (take j l) ++ r ≡ pointers_in n (take (j - 1) l) ++ (w ∷ r)
        kept r = rw (one_more, word_at ∙ sym is) at (last-kept n l (j - 1) before (ap (within 1 n) (word_at ∙ sym is) ∙ e) r)

        longer : length (pointers_in n (take j l)) ≡ length (pointers_in n (take (j - 1) l)) + 1
        longer =
            let a : length (pointers_in n (take j l) ++ []) ≡ length (pointers_in n (take (j - 1) l) ++ (w ∷ [])) = ap length (kept []) in
            omega (arith, a, length-append (pointers_in n (take j l)) [], length-append (pointers_in n (take (j - 1) l)) (w ∷ []))

        pub pushing-room : 1 ≤ at
        pushing-room = omega (arith, longer, i.counted, p.space)

        pub pushing-inside : at ≤ length work
        pushing-inside = omega (arith, i.low, i.work-length, p.end)

        pub pushing-kept : Pushing n l k work₀ top (set work (at - 1) w) (at - 1) (j - 1)
        pushing-kept =
            record {
              rest =
                  ap (λ (x : List ℕ). pointers_in n (take (j - 1) l) ++ x) (push-one work at w pushing-room pushing-inside)
                  ∙ sym (kept (drop at work))
                  ∙ i.rest;
              counted = omega (arith, longer, i.counted, pushing-room);
              here = omega (arith, i.here);
              low = omega (arith, i.low);
              work-length = length-set work (at - 1) w ∙ i.work-length;
            }

  pub pushing-done : Pushing n l k work₀ top work at j → j ≤ 0 → Pushed (pointers_in n (take k l)) work₀ top work at
  unfolding pointers
  pushing-done i h =
      let z : j ≡ 0 = omega arith in
      record { front = rw z at i.rest; counted = omega (arith, rw z at i.counted) }

-- ---- the words under the set are as they were

pub word-under : (n : ℕ) (work work' : List ℕ) (k : ℕ) → take (9 * n) work' ≡ take (9 * n) work → k < 9 * n → get_or work' k 0 ≡ get_or work k 0
word-under n work work' k e l = sym (get_or-take (9 * n) work' k 0 l) ∙ ap (λ (x : List ℕ). get_or x k 0) e ∙ get_or-take (9 * n) work k 0 l

slice-take : (f k : ℕ) (l : List ℕ) → f + k ≤ length l → slice f (f + k) l ≡ take k (drop f l)
slice-take f k l h = ap (drop f) (take-add f k l) ∙ drop_at (take f l) (take k (drop f l)) f (length-take-le f l (omega arith))

pub pending-kept : (n : ℕ) (work work' : List ℕ) (top : ℕ) → take (9 * n) work' ≡ take (9 * n) work → top ≤ 8 * n → 8 * n ≤ length work → length work' ≡ length work
    → pending n work' top ≡ pending n work top
pending-kept n work work' top e h l q =
    let t : top + (8 * n - top) ≡ 8 * n = omega arith in
    let cut : take (8 * n) work' ≡ take (8 * n) work
    = sym (take-take (8 * n) (9 * n) work' (omega arith)) ∙ ap (take (8 * n)) e ∙ take-take (8 * n) (9 * n) work (omega arith) in
    sym (slice-take top (8 * n - top) work' (omega arith))
    ∙ ap (λ (k : ℕ). drop top (take k work')) t
    ∙ ap (drop top) cut
    ∙ ap (λ (k : ℕ). drop top (take k work)) (sym t)
    ∙ slice-take top (8 * n - top) work (omega arith)
