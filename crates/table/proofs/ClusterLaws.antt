-- Clusters in the records: one word and one object after the other. Assumes nothing.
use Prim.Native.Nat.{ℕ, zero, suc, ◌+◌, ◌-◌, ◌≤◌, ◌<◌, min}
use native.Mathlib.Decide.{dec_le}
use Rattle.std.specs.List.{list_any}
use mathlib.Core.Path.{◌≡◌, refl, sym, ap, ◌∙◌}
use mathlib.Core.Bool.{◌&&◌, Bool, true, false, not, ◌||◌}
use mathlib.Core.Logic.{◌≢◌}
use mathlib.Core.List.{List, [], ◌∷◌, map}
use native.Mathlib.Omega.{arith}
use native.Mathlib.Numerals.{add-one}
use lib.Dec.{eqb, ltb}
use lib.ListN.{length, get_or, take, drop, length-drop, length-take}
use lib.Seq.{take-take, take_all, take-nil}
use borrow.Author.Tests.{le-leb, lt-leb, eq-eqb, ne_eqb, lt-ltb}
use Rattle.layout.specs.Limits.{slots_len}
use Rattle.records.specs.Record.{is_sink, cluster, width, loose}
use Rattle.graph.specs.Numbers.{bit, sum, count}
use Rattle.graph.specs.Clusters.{size, leaves, out_count, out_bit}
use Rattle.rules.specs.Buffers.{rec_of, used_words, eight}
use Rattle.rules.specs.View.{target, view, exact_out}
use Rattle.rules.proofs.ListLaws.{rec_of-above}
use Rattle.rules.proofs.BufferLaws.{rec_of-get}
use Rattle.rules.proofs.StoreLaws.{rec_of-zero}
use Rattle.table.specs.Clusters.{sink_of, cluster_of, word_leaves, any_leaves, members_of, dissolved_record}

-- ---- the record of an object

module _ (n x : ℕ) (recs : List ℕ) where
  pub record-none : x ≡ 0 → 0 ≡ rec_of n recs x
  record-none e = rw e (sym (rec_of-zero n recs))

  pub record-above : n < x → 0 ≡ rec_of n recs x
  record-above l = sym (rec_of-above n recs x l)

  pub record-in : x ≢ 0 → x ≤ n → get_or recs (x - 1) 0 ≡ rec_of n recs x
  record-in h l = sym (rec_of-get n recs x (omega (arith, h)) l)

-- ---- the words that leave a cluster

module _ (n c w : ℕ) (recs : List ℕ) where
  pub nil-stays : w ≡ 0 → false ≡ word_leaves n recs c w
  unfolding word_leaves leaves target
  nil-stays e = rw (e, le-leb 0 n (omega arith)) refl

  pub none_stays : n < w → false ≡ word_leaves n recs c w
  unfolding word_leaves leaves target
  none_stays l = rw (lt-leb w n l) refl

  pub leaves-by : w ≢ 0 → w ≤ n → word_leaves n recs c w ≡ not (is_sink (rec_of n recs w)) && not (eqb (cluster (rec_of n recs w)) c)
  unfolding word_leaves leaves target
  leaves-by h l = rw (le-leb w n l, ne_eqb w 0 h) refl

module _ (n c : ℕ) (recs : List ℕ) where
  pub any-cons : (w : ℕ) (ws : List ℕ) → any_leaves n recs c (w ∷ ws) ≡ word_leaves n recs c w || any_leaves n recs c ws
  unfolding any_leaves word_leaves out_count
  any-cons w ws = go (leaves (sink_of n recs) (cluster_of n recs) c (target n w)) (out_count (sink_of n recs) (cluster_of n recs) c (map (target n) ws))
    where
      go : (b : Bool) (m : ℕ) → ltb 0 (bit b + m) ≡ b || ltb 0 m
      go true m = lt-ltb 0 (1 + m) (omega arith)
      go false m = let z : 0 + m ≡ m = omega arith in rw z refl

  pub any-each : (ws : List ℕ) → list_any (word_leaves n recs c) ws ≡ any_leaves n recs c ws
  any-each [] = unfold any_leaves in unfold out_count in refl
  any-each (w ∷ ws) = ap (λ (b : Bool). word_leaves n recs c w || b) (any-each ws) ∙ sym (any-cons w ws)

-- ---- the used words of an object

-- the words that are there
pub take-min : (u k : ℕ) (l : List ℕ) → k ≡ min (length l) u → take u l ≡ take k l
take-min u k l e = go (dec_le u (length l))
  where
    go : Dec (u ≤ length l) → take u l ≡ take k l
    go (yes p) = ap (λ (j : ℕ). take j l) (omega arith)
    go (no p) = take_all u l (omega (arith, p)) ∙ sym (take_all k l (omega (arith, p)))

take-both : (w u : ℕ) (l : List ℕ) → u ≡ min w 8 → take u l ≡ take w (take 8 l)
take-both w u l e = go (dec_le w 8)
  where
    go : Dec (w ≤ 8) → take u l ≡ take w (take 8 l)
    go (yes p) = let z : u ≡ w = omega arith in rw z (sym (take-take w 8 l p))
    go (no p) =
        let z : u ≡ 8 = omega (arith, p) in
        let n = length-take 8 l in
        rw z (sym (take_all w (take 8 l) (omega (arith, p))))

pub eight-from : (x : ℕ) (slots : List ℕ) → 1 ≤ x → (from : ℕ) → from ≡ slots_len (x - 1) → eight slots x ≡ take 8 (drop from slots)
unfolding eight slots_len
eight-from zero slots p from f = absurd (omega arith)
eight-from (suc y) slots p from f = let z : suc y - 1 ≡ y = omega arith in rw (f, z) refl

module _ (x : ℕ) (slots : List ℕ) (w : ℕ) where
  pub used-none : x ≡ 0 → [] ≡ take w (eight slots x)
  unfolding eight
  used-none e = rw e (sym (take-nil {A = ℕ} w))

  pub used-are : x ≢ 0 → (from u to : ℕ) → from ≡ slots_len (x - 1) → u ≡ min w 8 → to ≡ min (length slots) (from + u)
      → take (to - from) (drop from slots) ≡ take w (eight slots x)
  used-are h from u to d e f =
      let l = length-drop from slots in
      rw (eight-from x slots (omega (arith, h)) from d) (sym (take-min u (to - from) (drop from slots) (omega arith)) ∙ take-both w u (drop from slots) e)

  pub used-past : (from u to : ℕ) → x ≢ 0 → from ≡ slots_len (x - 1) → u ≡ min w 8 → to ≡ min (length slots) (from + u) → to ≤ from → [] ≡ take w (eight slots x)
  used-past from u to h d e f p = let z : to - from ≡ 0 = omega arith in rw z at (used-are h from u to d e f)

-- ---- the out bit

module _ (n x : ℕ) (recs slots : List ℕ) (r c : ℕ) (e : r ≡ rec_of n recs x) (f : c ≡ cluster r) where
  pub out-loose : c ≡ 0 → not (eqb c 0) ≡ exact_out (view n recs slots) x
  unfolding exact_out view out_bit
  out-loose h = rw (← e, ← f, h) refl

  pub out-used : c ≢ 0 → (b : Bool) (words : List ℕ) → words ≡ take (width r) (eight slots x) → b ≡ list_any (word_leaves n recs c) words
      → b ≡ exact_out (view n recs slots) x
  unfolding exact_out view out_bit any_leaves used_words
  out-used h b words d k = k ∙ any-each n c recs words ∙ rw (d, ← e, ← f, ne_eqb c 0 h) refl

-- ---- members

module _ (n c : ℕ) (recs : List ℕ) where
  -- those among 1 to i
  unfoldable pub members_to : ℕ → ℕ
  members_to i = count i (λ x. eqb (cluster_of n recs x) c)

  pub members-none : 0 ≡ members_to 0
  unfolding members_to count sum
  members-none = refl

  pub members-more : (i : ℕ) → members_to (i + 1) ≡ members_to i + bit (eqb (cluster_of n recs (i + 1)) c)
  unfolding members_to count sum
  members-more i = rw (add-one i) refl

  module _ (i k m r : ℕ) (a : r ≡ rec_of n recs (i + 1)) (b : m ≡ cluster r) (e : k ≡ members_to i) where
    pub members-found : m ≡ c → k + 1 ≡ members_to (i + 1)
    members-found d =
        let t : eqb (cluster_of n recs (i + 1)) c ≡ true = eq-eqb _ _ (ap cluster (sym a) ∙ sym b ∙ d) in
        rw e (sym (members-more i ∙ ap (λ (x : Bool). members_to i + bit x) t))

    pub members-passed : m ≢ c → k ≡ members_to (i + 1)
    members-passed d =
        let t : eqb (cluster_of n recs (i + 1)) c ≡ false = ne_eqb _ _ (λ z. d (b ∙ ap cluster a ∙ z)) in
        let h : members_to (i + 1) ≡ members_to i + 0 = members-more i ∙ ap (λ (x : Bool). members_to i + bit x) t in
        omega arith

  pub members-all : (i k : ℕ) → i ≡ n → k ≡ members_to i → k ≡ members_of n recs c
  unfolding members_to members_of size
  members-all i k e h = h ∙ rw e refl

-- ---- every member loose

module _ (c k r : ℕ) (a : k ≡ cluster r) where
  pub loose-is : (v : ℕ) → k ≡ c → v ≡ loose r → v ≡ dissolved_record c r
  unfolding dissolved_record
  loose-is v b d = d ∙ rw (eq-eqb (cluster r) c (sym a ∙ b)) refl

  pub same-is : k ≢ c → r ≡ dissolved_record c r
  unfolding dissolved_record
  same-is b = rw (ne_eqb (cluster r) c (λ w. b (a ∙ w))) refl

-- whether a word leaves a cluster, for the search
pub ruleset leaving = (nil-stays, none_stays, leaves-by)
