-- Visits put in front of the others, word by word, and the cluster that an object gets.
-- Assumes nothing.
use Prim.Native.Nat.{ℕ, suc, ◌+◌, ◌-◌, ◌*◌, ◌/◌, ◌≤◌, ◌<◌}
use mathlib.Core.Path.{◌≡◌, refl, sym, ap, ap₂, ◌∙◌}
use mathlib.Core.Bool.{Bool, true, false}
use mathlib.Core.List.{List, [], ◌∷◌, map}
use native.Mathlib.Omega.{arith}
use lib.ListN.{length, get_or, take, drop, set, length-drop, length-set}
use lib.Seq.{drop-cons, length-take-le, get_or-take, get_or-drop, drop-length}
use borrow.Author.Tests.{le-leb, lt-leb}
use Rattle.rules.specs.View.{target, view}
use Rattle.rules.proofs.ViewLaws.{target-low}
use Rattle.choices.specs.Choices.{joined, goes_by}
use Rattle.records.specs.Record.{width}
use Rattle.rules.specs.Buffers.{rec_of}
use Rattle.table.specs.Room.{Sized}
use Rattle.analyse.specs.Memory.{stack_end, Memory, area, mem_of, visit_words, in_front}
use Rattle.analyse.specs.Called.{goes_to}
use Rattle.analyse.proofs.FillLaws.{area-zero}
use Rattle.analyse.proofs.MemoryLaws.{front-front, front-none, push-mem}
use Rattle.analyse.proofs.SlotLaws.{kids-at, slots-room, kids-length}

pub target-in : (n w : ℕ) → w ≤ n → w ≡ target n w
unfolding target
target-in n w h = rw (le-leb w n h) refl

pub target_none : (n w : ℕ) → n < w → 0 ≡ target n w
unfolding target
target_none n w h = rw (lt-leb w n h) refl

pub target_fits : (n w t : ℕ) → t ≡ target n w → t ≤ n
target_fits n w t e = omega (arith, target-low n w)

-- the words from the one at j on, of k, are put in front
pub record Pushing (n c : ℕ) (s : List ℕ) (k : ℕ) (work₀ : List ℕ) (top : ℕ) (work : List ℕ) (j at : ℕ) : Type 0 where
  pub mem : mem_of n work at ≡ in_front (visit_words c (map (target n) (drop j (take k s)))) (mem_of n work₀ top)
  pub long : length work ≡ length work₀
  pub spot : at + k ≡ top + j
  pub most : j ≤ k

module _ (n c : ℕ) (recs slots work₀ : List ℕ) (z : Sized n recs slots work₀) (x : ℕ) (low : 1 ≤ x) (high : x ≤ n) (top : ℕ)
    (room : length ((view n recs slots).kids x) ≤ top) (k : ℕ) (wide : k ≡ width (rec_of n recs x)) where
  abbrev s : List ℕ
  s = drop (8 * (x - 1)) slots

  words-room : k ≤ top
  words-room = omega (arith, kids-length n recs slots work₀ z x low high, room, wide)

  pub slots-there : 8 * (x - 1) + k ≤ length slots
  slots-there = omega (arith, slots-room n recs slots work₀ z x low high, wide)

  more : k ≤ length s
  more = let e = length-drop (8 * (x - 1)) slots in omega (arith, slots-there)

  pub pushing-start : Pushing n c s k work₀ top work₀ k top
  unfolding visit_words
  pushing-start = record {
    mem = sym (ap (λ (l : List ℕ). in_front (visit_words c (map (target n) l)) (mem_of n work₀ top)) none ∙ front-none (mem_of n work₀ top));
    long = refl;
    spot = refl;
    most = omega arith;
  }
    where
      none : drop k (take k s) ≡ []
      none =
          let all : k ≡ length (take k s) = omega (arith, length-take-le k s more) in
          ap (λ (i : ℕ). drop i (take k s)) all ∙ drop-length (take k s)

  module _ (work : List ℕ) (j at : ℕ) (g : Pushing n c s k work₀ top work j at) (p : 0 < j) where
    pub spot-left : 1 ≤ at
    spot-left = omega (arith, g.spot, words-room)

    pub spot-there : top ≤ stack_end n → at - 1 < length work
    spot-there h = omega (arith, g.spot, g.most, g.long, z.work-long, spot-left)

  pub pushing-turn : (work : List ℕ) (j at t : ℕ) → top ≤ stack_end n → Pushing n c s k work₀ top work j at → 0 < j
      → t ≡ target n (get_or slots (8 * (x - 1) + (j - 1)) 0) → Pushing n c s k work₀ top (set work (at - 1) (t + 4096 * c)) (j - 1) (at - 1)
  unfolding visit_words
  pushing-turn work j at t h g p e = record {
    mem = push-mem n work (omega (arith, g.long, z.work-long)) at (t + 4096 * c) (omega (arith, g.spot, words-room)) (omega (arith, g.spot, g.most))
        ∙ ap₂ (λ (v : ℕ) (w : Memory). in_front ((v + 4096 * c) ∷ []) w) (e ∙ ap (target n) there) g.mem
        ∙ front-front ((target n (get_or s (j - 1) 0) + 4096 * c) ∷ []) (visit_words c (map (target n) (drop j (take k s)))) (mem_of n work₀ top)
        ∙ ap (λ (i : List ℕ). in_front (visit_words c (map (target n) i)) (mem_of n work₀ top)) (sym cut);
    long = length-set work (at - 1) (t + 4096 * c) ∙ g.long;
    spot = omega (arith, g.spot, words-room);
    most = omega (arith, g.most);
  }
    where
      there : get_or slots (8 * (x - 1) + (j - 1)) 0 ≡ get_or s (j - 1) 0
      there = sym (get_or-drop (8 * (x - 1)) slots (j - 1) 0)

      cut : drop (j - 1) (take k s) ≡ get_or s (j - 1) 0 ∷ drop j (take k s)
      cut =
          let one : suc (j - 1) ≡ j = omega arith in
          let len = length-take-le k s more in
          drop-cons (take k s) (j - 1) 0 (omega (arith, g.most))
          ∙ ap₂ (λ (v : ℕ) (i : ℕ). v ∷ drop i (take k s)) (get_or-take k s (j - 1) 0 (omega (arith, g.most))) one

  pub pushing-end : (work : List ℕ) (j at : ℕ) → Pushing n c s k work₀ top work j at → j ≤ 0
      → (mem_of n work at ≡ in_front (visit_words c ((view n recs slots).kids x)) (mem_of n work₀ top)) × (at + length ((view n recs slots).kids x) ≡ top)
  pushing-end work j at g h =
      let e : j ≡ 0 = omega arith in
      (rw (kids-at n recs slots x low (z.widths x), ← wide) (rw e at g.mem), omega (arith, g.spot, kids-length n recs slots work₀ z x low high, wide))

-- ---- the cluster that an object gets

module _ (limit r n base : ℕ) (work : List ℕ) (o c e : ℕ) where
  pub goes_none : c ≡ 0 → e ≡ goes_by limit r 0 o c → e ≡ goes_to limit r (area n base work) o c
  unfolding goes_to
  goes_none z h =
      h ∙ ap (λ (s : ℕ). goes_by limit r s o c) (sym (ap (λ (x : ℕ). area n base work x / 4096) z ∙ ap (λ (w : ℕ). w / 4096) (area-zero n base work)))

  pub goes_by_lem : (w : ℕ) → w ≡ area n base work c → e ≡ goes_by limit r (w / 4096) o c → e ≡ goes_to limit r (area n base work) o c
  unfolding goes_to
  goes_by_lem w is h = h ∙ ap (λ (s : ℕ). goes_by limit r (s / 4096) o c) is

pub joined-fits : (b s : Bool) (o c n : ℕ) → o ≤ n → c ≤ n → joined b s o c ≤ n
unfolding joined
joined-fits true s o c n p q = omega arith
joined-fits false true o c n p q = q
joined-fits false false o c n p q = p
