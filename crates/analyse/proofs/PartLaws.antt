-- A part of the work words that was lent: what is outside it stays.
-- Assumes nothing.
use Prim.Native.Nat.{ℕ, zero, suc, ◌+◌, ◌-◌, ◌*◌, ◌≤◌, ◌<◌}
use mathlib.Core.Path.{◌≡◌, refl, sym, ap, ap₂, ◌∙◌, fun_ext}
use mathlib.Core.Bool.{cond}
use mathlib.Core.List.{List, ◌++◌}
use mathlib.Core.Logic.{◌⊎◌, inl, inr}
use native.Mathlib.Decide.{dec_le}
use native.Mathlib.Omega.{arith}
use lib.ListN.{length, get_or, take, drop, length-drop}
use lib.Seq.{get_or-take, get_or-drop, drop_at, take-append-le, length-take-le}
use borrow.Rule.Slice.PartMut.{put_mid, mid_of, post_of, same_len_mid, take_put, drop_put}
use Rattle.rules.specs.Buffers.{rec_of, each_record, zeros}
use Rattle.rules.proofs.ListLaws.{length-each, rec_of-each}
use Rattle.rules.proofs.PlaceLaws.{rec-take}
use Rattle.rules.proofs.BufferLaws.{rec_of-get}
use Rattle.table.specs.Clusters.{cluster_of}
use Rattle.links.specs.Links.{link_word, links, linkable}
use Rattle.links.proofs.LinkLaws.{linked, zeros-none, zeros-past}
use Rattle.analyse.specs.Memory.{area}
use Rattle.analyse.specs.Filling.{Filling}
use Rattle.analyse.proofs.MemoryLaws.{area-read}
use Rattle.analyse.proofs.FillLaws.{area-zero, area-over}

pub area_same : (n b : ℕ) (l m : List ℕ) → ((i : ℕ) → b < i → i ≤ b + n → get_or m i 0 ≡ get_or l i 0) → area n b m ≡ area n b l
area_same n b l m h = fun_ext (λ x. go x (dec_le x n))
  where
    go : (x : ℕ) → Dec (x ≤ n) → area n b m x ≡ area n b l x
    go zero q = area-zero n b m ∙ sym (area-zero n b l)
    go (suc x) (yes q) =
        sym (area-read n b m (suc x) (omega arith) q) ∙ h (b + suc x) (omega arith) (omega arith) ∙ area-read n b l (suc x) (omega arith) q
    go (suc x) (no q) = area-over n b m (suc x) (omega (arith, q)) ∙ sym (area-over n b l (suc x) (omega (arith, q)))

-- the first n + 1 words set to 0
pub zeros-filled : (n : ℕ) (work work' : List ℕ) → n < length work → work' ≡ zeros (n + 1) work → Filling n 0 (λ x. 0) work work' n
unfolding zeros
zeros-filled n work work' long e = record {
  filled = λ x p q. sym (area-read n 0 work' x p q) ∙ none x q;
  others = λ b a. area_same n b work work' (λ i p q. past i (apart b a i p q));
  long = ap length e ∙ length-each 0 (n + 1) (λ i w. 0) work;
}
  where
    none : (x : ℕ) → x ≤ n → get_or work' (0 + x) 0 ≡ 0
    none x q =
        let s : 0 + x ≡ x + 1 - 1 = omega arith in
        ap₂ (λ (l : List ℕ) (i : ℕ). get_or l i 0) e s
        ∙ sym (rec_of-get (n + 1) (zeros (n + 1) work) (x + 1) (omega arith) (omega arith)) ∙ zeros-none (n + 1) work (omega arith) (x + 1)

    past : (i : ℕ) → n < i → get_or work' i 0 ≡ get_or work i 0
    past i h =
        let s : n + 1 + (i - (n + 1)) ≡ i = omega arith in
        rw s at (sym (get_or-drop (n + 1) work' (i - (n + 1)) 0)
        ∙ ap (λ (l : List ℕ). get_or l (i - (n + 1)) 0) (ap (drop (n + 1)) e ∙ zeros-past (n + 1) work (omega arith)) ∙ get_or-drop (n + 1) work (i - (n + 1)) 0)

    apart : (b : ℕ) → (b + n ≤ 0) ⊎ (0 + n ≤ b) → (i : ℕ) → b < i → i ≤ b + n → n < i
    apart b (inl a) i p q = absurd (omega arith)
    apart b (inr a) i p q = omega arith

module _ (n base from e : ℕ) (work part : List ℕ) (first : from ≡ base + 1) (size : e - from ≡ n) (long : e ≤ length work) (ordered : from ≤ e) (len : length part ≡ length (mid_of from (e - from) work)) where
  abbrev after : List ℕ
  after = put_mid from (e - from) work part

  part_length : length part ≡ n
  part_length = len ∙ length-take-le (e - from) (drop from work) (let a = length-drop from work in omega arith) ∙ size

  before_same : (i : ℕ) → i < from → get_or after i 0 ≡ get_or work i 0
  before_same i h =
      sym (get_or-take from after i 0 h) ∙ ap (λ (l : List ℕ). get_or l i 0) (take_put from (e - from) work part (omega arith)) ∙ get_or-take from work i 0 h

  past_same : (i : ℕ) → e ≤ i → get_or after i 0 ≡ get_or work i 0
  past_same i h =
      let s : e + (i - e) ≡ i = omega arith in
      rw s at (sym (get_or-drop e after (i - e) 0) ∙ ap (λ (l : List ℕ). get_or l (i - e) 0) (drop_put from e work part ordered long (part_length ∙ sym size)) ∙ get_or-drop e work (i - e) 0)

  pub part-area : (x : ℕ) → area n base after x ≡ rec_of n part x
  unfolding area
  part-area x =
      rw (← first) (ap (λ (l : List ℕ). rec_of n l x) (drop_at (take from work) (part ++ post_of from (e - from) work) from (length-take-le from work (omega arith)))
      ∙ rec-take n _ _ (take-append-le n part (post_of from (e - from) work) (omega (arith, part_length))) x)

  pub part_filled : (f : ℕ → ℕ) → ((x : ℕ) → 1 ≤ x → x ≤ n → rec_of n part x ≡ f x) → Filling n base f work after n
  part_filled f h = record {
    filled = λ x p q. part-area x ∙ h x p q;
    others = λ b a. area_same n b work after (λ i p q. apart b a i p q);
    long = same_len_mid from (e - from) work part len;
  }
    where
      apart : (b : ℕ) → (b + n ≤ base) ⊎ (base + n ≤ b) → (i : ℕ) → b < i → i ≤ b + n → get_or after i 0 ≡ get_or work i 0
      apart b (inl a) i p q = before_same i (omega arith)
      apart b (inr a) i p q = past_same i (omega arith)

each-link : (n : ℕ) (recs mid : List ℕ) (x : ℕ) → 1 ≤ x → x ≤ n → n ≤ length mid → rec_of n (links n (cluster_of n recs) mid) x ≡ link_word n (cluster_of n recs) x
unfolding links each_record
each-link n recs mid x p q l = rec_of-each n (λ x w. link_word n (cluster_of n recs) x) mid x p q l

pub links-filled : (n : ℕ) (recs work part : List ℕ) → n ≤ 4095 → n ≤ length recs → 10 * n + 64 ≤ length work
    → length part ≡ length (mid_of (8 * n + 1) (9 * n + 1 - (8 * n + 1)) work)
    → part ≡ cond (linkable n recs (mid_of (8 * n + 1) (9 * n + 1 - (8 * n + 1)) work)) (links n (cluster_of n recs) (mid_of (8 * n + 1) (9 * n + 1 - (8 * n + 1)) work)) (mid_of (8 * n + 1) (9 * n + 1 - (8 * n + 1)) work)
    → Filling n (8 * n) (link_word n (cluster_of n recs)) work (put_mid (8 * n + 1) (9 * n + 1 - (8 * n + 1)) work part) n
unfolding links
links-filled n recs work part m r w l e =
    part_filled n (8 * n) (8 * n + 1) (9 * n + 1) work part refl size (omega arith) (omega arith) l (link_word n (cluster_of n recs))
    (λ x p q. ap (λ (t : List ℕ). rec_of n t x) (e ∙ sym (linked n (cluster_of n recs) recs mid m r (omega (arith, len)))) ∙ each x p q)
  where
    size : 9 * n + 1 - (8 * n + 1) ≡ n
    size = omega arith

    mid : List ℕ
    mid = mid_of (8 * n + 1) (9 * n + 1 - (8 * n + 1)) work

    len : length mid ≡ n
    len = length-take-le (9 * n + 1 - (8 * n + 1)) (drop (8 * n + 1) work) (let a = length-drop (8 * n + 1) work in omega arith) ∙ size

    each : (x : ℕ) → 1 ≤ x → x ≤ n → rec_of n (links n (cluster_of n recs) mid) x ≡ link_word n (cluster_of n recs) x
    each x p q = each-link n recs mid x p q (omega (arith, len))
