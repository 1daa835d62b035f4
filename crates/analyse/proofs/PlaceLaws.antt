-- An object of no cluster is placed: seen, counted, and what it points at comes next.
-- Assumes nothing.
use Prim.Native.Nat.{ℕ, ◌+◌, ◌*◌, ◌≤◌}
use mathlib.Core.Path.{◌≡◌, ap, ap₂, ◌∙◌}
use mathlib.Core.List.{List}
use native.Mathlib.Omega.{arith}
use lib.ListN.{length, set}
use Rattle.graph.specs.Numbers.{upd}
use Rattle.rules.specs.Buffers.{rec_of}
use Rattle.rules.specs.View.{view}
use Rattle.analyse.specs.Memory.{area, Memory, mem_of, visit_words, in_front, with_state, with_link, counting}
use Rattle.choices.specs.Choices.{goes_by}
use Rattle.table.specs.Room.{Sized}
use Rattle.analyse.specs.Called.{goes_to, placed}
use Rattle.analyse.proofs.MemoryLaws.{put-state}
use Rattle.analyse.proofs.PushLaws.{joined-fits}

pub goes-fits : (limit r : ℕ) (link : ℕ → ℕ) (o c n : ℕ) → o ≤ n → c ≤ n → goes_to limit r link o c ≤ n
unfolding goes_to goes_by
goes-fits limit r link o c n p q = joined-fits _ _ o c n p q

module _ (n limit : ℕ) (recs work : List ℕ) (o c : ℕ) (q : o ≤ n) (r : ℕ) (own : r ≡ rec_of n recs o) (e : ℕ)
    (is : e ≡ goes_to limit r (area n (8 * n) work) o c) where
  pub place-fits : c ≤ n → e ≤ n
  place-fits h = rw is (goes-fits limit r (area n (8 * n) work) o c n q h)

  pub place-done : (slots : List ℕ) → Sized n recs slots work → 1 ≤ o → (top : ℕ) (work₁ work₂ work₃ : List ℕ) (t : ℕ) → length work₁ ≡ length work
      → ((t : ℕ) → mem_of n work₁ t ≡ with_link (counting e (area n (8 * n) work)) (mem_of n work t))
      → work₂ ≡ set work₁ (9 * n + o) (e + 4096)
      → mem_of n work₃ t ≡ in_front (visit_words e ((view n recs slots).kids o)) (mem_of n work₂ top)
      → t + length ((view n recs slots).kids o) ≡ top
      → (mem_of n work₃ t ≡ placed (view n recs slots) (goes_to limit (rec_of n recs o) (area n (8 * n) work) o c) o (mem_of n work top)) × (t + length ((view n recs slots).kids o) ≡ top)
  unfolding placed mem_of with_link
  place-done slots z p top work₁ work₂ work₃ t l a b m s =
      (m ∙ ap (in_front (visit_words e ((view n recs slots).kids o))) (two ∙ one) ∙ ap last (is ∙ ap (λ (v : ℕ). goes_to limit v (area n (8 * n) work) o c) own), s)
    where
      two : mem_of n work₂ top ≡ with_state (upd (area n (9 * n) work₁) o (e + 4096)) (mem_of n work₁ top)
      two = ap (λ (i : List ℕ). mem_of n i top) b ∙ put-state n work₁ (omega (arith, l, z.work-long)) o (e + 4096) top p q

      one : with_state (upd (area n (9 * n) work₁) o (e + 4096)) (mem_of n work₁ top)
          ≡ with_state (upd (area n (9 * n) work) o (e + 4096)) (with_link (counting e (area n (8 * n) work)) (mem_of n work top))
      one = ap₂ (λ (f : ℕ → ℕ) (v : Memory). with_state (upd f o (e + 4096)) v) (ap (λ (v : Memory). v.state) (a top)) (a top)

      last : ℕ → Memory
      last v = in_front (visit_words v ((view n recs slots).kids o)) (with_state (upd (area n (9 * n) work) o (v + 4096)) (with_link (counting v (area n (8 * n) work)) (mem_of n work top)))
