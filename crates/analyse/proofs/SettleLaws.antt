-- The pass that writes the records.
-- Assumes nothing.
use Prim.Native.Nat.{ℕ, suc, ◌+◌, ◌-◌, ◌%◌, ◌^◌, ◌≤◌, ◌<◌}
use mathlib.Core.Path.{◌≡◌, refl, sym, ap, ◌∙◌}
use mathlib.Core.Bool.{Bool, not, ◌&&◌}
use mathlib.Core.List.{List}
use native.Mathlib.Omega.{arith}
use lib.Dec.{eqb}
use lib.ListN.{length, get_or, set, length-set}
use lib.Seq.{get_or-set_other}
use Rattle.records.specs.Record.{cluster}
use Rattle.graph.specs.Numbers.{bit}
use Rattle.graph.proofs.NumberLaws.{bit_le}
use Rattle.rules.specs.Buffers.{rec_of, each_from}
use Rattle.rules.proofs.PassLaws.{pass_from, pass-begin, pass-turn, pass-end}
use Rattle.rules.proofs.BufferLaws.{rec_of-get}
use Rattle.table.specs.Clusters.{cluster_of}
use Rattle.choices.specs.Choices.{settled}
use Rattle.layout.specs.declared.answers.Tuning.{Tuning}
use Rattle.analyse.specs.Memory.{area}
use Rattle.analyse.specs.Judge.{loss_at, Settled}
use Rattle.analyse.proofs.AnswerLaws.{Found, found-start, found_turn, found-end, clusters-most, members-most, head-is, member_is}

-- the words from place k to n are still to be rewritten, each by its number, counted from 1
abbrev Left : ℕ → (ℕ → ℕ → ℕ) → List ℕ → List ℕ → ℕ → Type 0
Left n f l₀ l k = (pass_from 1 k (n - k) f l ≡ each_from 1 n f l₀) × (k ≤ n) × (length l ≡ length l₀)

module _ (n : ℕ) (f : ℕ → ℕ → ℕ) (l₀ : List ℕ) where
  left-start : Left n f l₀ l₀ 0
  left-start =
      let e : n - 0 ≡ n = omega arith in
      (ap (λ (j : ℕ). pass_from 1 0 j f l₀) e ∙ pass-begin 1 n f l₀, omega arith, refl)

  left-turn : (l : List ℕ) (x v : ℕ) → Left n f l₀ l (x - 1) → 1 ≤ x → x ≤ n → n ≤ length l₀ → v ≡ f x (get_or l (x - 1) 0) → Left n f l₀ (set l (x - 1) v) (x + 1 - 1)
  left-turn l x v g low h m e =
      let k : ℕ = x - 1 in
      let s : x + 1 - 1 ≡ suc k = omega arith in
      let t : 1 + k ≡ x = omega arith in
      let d : n - k ≡ suc (n - suc k) = omega arith in
      let p = pass-turn 1 k (n - suc k) f l 0 (omega (arith, g.2)) in (
        rw s (ap (λ (w : ℕ). pass_from 1 (suc k) (n - suc k) f (set l k w)) (e ∙ ap (λ (j : ℕ). f j (get_or l k 0)) (sym t)) ∙ p
            ∙ ap (λ (j : ℕ). pass_from 1 k j f l) (sym d) ∙ g.0),
        omega arith,
        length-set l k v ∙ g.2,
      )

  left_end : (l : List ℕ) (k : ℕ) → Left n f l₀ l k → n ≤ k → l ≡ each_from 1 n f l₀
  left_end l k g h =
      let e : n - k ≡ 0 = omega arith in
      sym (pass-end 1 k f l) ∙ ap (λ (j : ℕ). pass_from 1 k j f l) (sym e) ∙ g.0

-- ---- with the answers counted

-- The records of 1 to k are settled and counted, and those after them are as they were.
pub record Settling (n : ℕ) (t : Tuning) (recs₀ work recs : List ℕ) (k loss clusters members : ℕ) : Type 0 where
  pub left : Left n (λ x r. settled (area n n work x) r) recs₀ recs k
  pub rest : (j : ℕ) → k ≤ j → get_or recs j 0 ≡ get_or recs₀ j 0
  pub found : Found n t recs₀ work k loss clusters members

pub settle-start : (n : ℕ) (t : Tuning) (recs work : List ℕ) → Settling n t recs work recs 0 0 0 0
settle-start n t recs work = record { left = left-start n _ recs; rest = λ j h. refl; found = found-start n t recs work }

module _ (n : ℕ) (t : Tuning) (recs₀ work recs : List ℕ) (k loss clusters members : ℕ) (S : Settling n t recs₀ work recs k loss clusters members) where
  pub settle-fits : n ≤ 4095 → (a : ℕ) → a ≤ 4095 → loss + a < 2 ^ 32
  settle-fits h a b = omega (arith, h, b, S.found.loss-most, S.found.most)

  pub heads-fit : n ≤ 4095 → (b : Bool) → clusters + bit b < 2 ^ 32
  heads-fit h b = omega (arith, h, bit_le b, clusters-most _ _ _ _ _ _ _ _ S.found, S.found.most)

  pub members-fit : n ≤ 4095 → (b : Bool) → members + bit b < 2 ^ 32
  members-fit h b = omega (arith, h, bit_le b, members-most _ _ _ _ _ _ _ _ S.found, S.found.most)

  pub settle-end : n ≤ k → Settled n t recs₀ work recs loss clusters members
  settle-end h =
      let f = found-end n t recs₀ work k loss clusters members S.found h in
      record { records = left_end n _ recs₀ recs k S.left h; loss-is = f.0; clusters-is = f.1; members-is = f.2 }

module _ (n : ℕ) (t : Tuning) (recs₀ work recs : List ℕ) (x loss clusters members : ℕ) (S : Settling n t recs₀ work recs (x - 1) loss clusters members) where
  pub settle-turn : 1 ≤ x → x ≤ n → n ≤ length recs₀ → (w : ℕ) → w ≡ area n n work x → (d : ℕ) → d ≡ cluster (get_or recs (x - 1) 0)
      → (a : ℕ) → ((r : List ℕ) → d ≡ cluster_of n r x → a ≡ loss_at n t r work x) × (a ≤ 4095)
      → (v : ℕ) → v ≡ settled w (get_or recs (x - 1) 0)
      → Settling n t recs₀ work (set recs (x - 1) v) (x + 1 - 1) (loss + a) (clusters + bit (eqb d 0 && eqb (w % 4096) x)) (members + bit (eqb d 0 && not (eqb (w % 4096) 0)))
  settle-turn low h m w ws d ds a la v vs = record {
    left = left-turn n _ recs₀ recs x v S.left low h m (vs ∙ ap (λ (u : ℕ). settled u (get_or recs (x - 1) 0)) ws);
    rest = λ j p. get_or-set_other recs (x - 1) j v 0 (λ e. absurd (omega arith)) ∙ S.rest j (omega arith);
    found = rw next (found_turn n t recs₀ work (x - 1) loss clusters members S.found (omega arith) a _ _
        (rw last (la.0 recs₀ old, la.1)) (rw last (head-is n recs₀ work x d old w ws)) (rw last (member_is n recs₀ work x d old w ws)));
  }
    where
      last : x - 1 + 1 ≡ x
      last = omega arith

      next : x + 1 - 1 ≡ x - 1 + 1
      next = omega arith

      at : rec_of n recs₀ x ≡ get_or recs₀ (x - 1) 0
      at = rec_of-get n recs₀ x low h

      old : d ≡ cluster_of n recs₀ x
      old = ds ∙ ap cluster (S.rest (x - 1) (omega arith) ∙ sym at)
