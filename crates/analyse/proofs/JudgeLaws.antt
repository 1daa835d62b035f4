-- Out pointers counted by cluster, and what is left of the clusters.
-- Assumes nothing.
use Prim.Native.Nat.{ℕ, zero, suc, ◌+◌, ◌-◌, ◌*◌, ◌/◌, ◌%◌, ◌^◌, ◌≤◌, ◌<◌}
use mathlib.Core.Path.{◌≡◌, refl, sym, ap, ap₂, ◌∙◌, fun_ext, subst}
use mathlib.Core.Bool.{Bool, true, false, cond, not, ◌&&◌, ◌||◌}
use mathlib.Core.List.{List, [], ◌∷◌, map}
use mathlib.Core.Logic.{◌≢◌, inl, inr}
use native.Mathlib.Decide.{ℕ_discrete, dec_le}
use native.Mathlib.Omega.{arith}
use lib.Dec.{eqb, ltb}
use lib.ListN.{length, get_or, take, drop, set, length-set, length-drop, drop_of_length-le}
use lib.Seq.{drop-cons, get_or-take, get_or-drop, length-take-le}
use borrow.Author.Tests.{eq-eqb, ne_eqb, lt-ltb, not-true, not-false}
use Rattle.records.specs.Record.{is_sink, width}
use Rattle.graph.specs.Numbers.{bit, sum, upd}
use Rattle.graph.specs.Clusters.{keep, leaves, out_count, out_bit, outs_of}
use Rattle.graph.specs.Invariant.{Sizes}
use Rattle.graph.proofs.NumberLaws.{bit_le, upd_same, upd_other}
use Rattle.graph.proofs.OutLaws.{out_bit-keep, out_bit-none}
use Rattle.rules.specs.Buffers.{rec_of}
use Rattle.rules.specs.View.{view, target}
use Rattle.table.specs.Clusters.{cluster_of}
use Rattle.layout.specs.declared.answers.Tuning.{Tuning}
use Rattle.choices.specs.Choices.{lasts}
use Rattle.analyse.specs.Memory.{area, cluster_in, size_in}
use Rattle.table.specs.Room.{Sized}
use Rattle.analyse.specs.Filling.{Filling}
use Rattle.analyse.specs.Judge.{walk_clusters, outs_at, Tallying, Judgeable, stays_by, stays_in, left_word}
use Rattle.analyse.proofs.MemoryLaws.{area-read, area-put, area-below}
use Rattle.analyse.proofs.FillLaws.{area-zero, area-over}
use Rattle.analyse.proofs.SlotLaws.{kids-at, resized}

-- ---- one word: is it a pointer out of the cluster?

module _ (n : ℕ) (recs : List ℕ) (cl : ℕ → ℕ) (c y : ℕ) where
  abbrev sinks : ℕ → Bool
  sinks = λ x. is_sink (rec_of n recs x)

  pub leaves_none : y ≡ 0 → false ≡ leaves sinks cl c y
  unfolding leaves
  leaves_none e = rw e refl

  module _ (p : y ≢ 0) (v : Bool) (is : v ≡ is_sink (rec_of n recs y)) where
    pub leaves-sink : v ≡ true → false ≡ leaves sinks cl c y
    unfolding leaves
    leaves-sink f = rw (ne_eqb y 0 p, ← is, f) refl

    pub leaves-test : v ≡ false → (w : ℕ) → w % 4096 ≡ cl y → not (eqb (w % 4096) c) ≡ leaves sinks cl c y
    unfolding leaves
    leaves-test f w e = rw (ne_eqb y 0 p, ← is, f, e) refl

-- ---- the words of an object, from the last to the first

out-turn : (n : ℕ) (sink : ℕ → Bool) (cl : ℕ → ℕ) (c : ℕ) (s : List ℕ) (j : ℕ) → 0 < j → j ≤ length s
    → out_count sink cl c (map (target n) (drop j s)) + bit (leaves sink cl c (target n (get_or s (j - 1) 0)))
    ≡ out_count sink cl c (map (target n) (drop (j - 1) s))
unfolding out_count
out-turn n sink cl c s j p q =
    let e : suc (j - 1) ≡ j = omega arith in
    let d : drop (j - 1) s ≡ get_or s (j - 1) 0 ∷ drop j s = rw e at (drop-cons s (j - 1) 0 (omega arith)) in
    let a = ap (λ (l : List ℕ). out_count sink cl c (map (target n) l)) d in
    omega arith

-- the words of object x are counted from the last of k down to the one at j
abbrev pub So : ℕ → List ℕ → List ℕ → List ℕ → ℕ → ℕ → ℕ → ℕ → ℕ → Type 0
So n recs slots work c from k j total =
    (total ≡ out_count (λ x. is_sink (rec_of n recs x)) (walk_clusters n work) c (map (target n) (drop j (take k (drop from slots))))) × (total + j ≤ k)

module _ (n : ℕ) (recs slots work : List ℕ) (z : Sized n recs slots work) (x c : ℕ) (p : 1 ≤ x) (q : x ≤ n) (k : ℕ) (ks : k ≡ width (rec_of n recs x)) where
  abbrev words : List ℕ
  words = take k (drop (8 * (x - 1)) slots)

  pub outs-few : k ≤ 8
  outs-few = omega (arith, ks, z.widths x)

  pub outs-room : 8 * (x - 1) + k ≤ length slots
  outs-room = omega (arith, outs-few, z.room.slots-long)

  words_long : length words ≡ k
  words_long = length-take-le k (drop (8 * (x - 1)) slots) (simp length-drop (omega (arith, outs-room)))

  pub outs-start : So n recs slots work c (8 * (x - 1)) k k 0
  unfolding out_count
  outs-start =
      let e : drop k words ≡ [] = drop_of_length-le words {i = k} (omega (arith, words_long)) in
      (rw e refl, omega arith)

  pub outs-again : (j total : ℕ) (b : Bool) → So n recs slots work c (8 * (x - 1)) k j total → 0 < j
      → b ≡ leaves (λ y. is_sink (rec_of n recs y)) (walk_clusters n work) c (target n (get_or slots (8 * (x - 1) + (j - 1)) 0))
      → So n recs slots work c (8 * (x - 1)) k (j - 1) (total + bit b)
  outs-again j total b g h e =
      let w : get_or words (j - 1) 0 ≡ get_or slots (8 * (x - 1) + (j - 1)) 0 =
      get_or-take k (drop (8 * (x - 1)) slots) (j - 1) 0 (omega arith) ∙ get_or-drop (8 * (x - 1)) slots (j - 1) 0 in
      let t = out-turn n (λ y. is_sink (rec_of n recs y)) (walk_clusters n work) c words j h (omega (arith, words_long)) in
      let u : bit b ≡ bit (leaves (λ y. is_sink (rec_of n recs y)) (walk_clusters n work) c (target n (get_or words (j - 1) 0))) = rw w (ap bit e) in
      (omega arith, omega (arith, bit_le b))

  pub outs-sum : (j total : ℕ) (b : Bool) → So n recs slots work c (8 * (x - 1)) k j total → total + bit b < 2 ^ 32
  outs-sum j total b g = omega (arith, outs-few, bit_le b)

  pub outs-end : (j total : ℕ) → So n recs slots work c (8 * (x - 1)) k j total → j ≤ 0 → (total ≡ outs_at n recs slots work x c) × (total ≤ 8)
  unfolding outs_at view
  outs-end j total g h =
      let o : j ≡ 0 = omega arith in
      let e : (view n recs slots).kids x ≡ map (target n) words =
      kids-at n recs slots x p (z.widths x) ∙ ap (λ (i : ℕ). map (target n) (take i (drop (8 * (x - 1)) slots))) (sym ks) in
      (rw e (rw o at g.0), omega (arith, outs-few))

-- ---- the counts by cluster

-- what the judging asks is asked of two tables
pub judgeable-now : (n : ℕ) (recs slots work₀ work : List ℕ) → length work ≡ length work₀ → area n (8 * n) work ≡ area n (8 * n) work₀
    → area n (9 * n) work ≡ area n (9 * n) work₀ → Judgeable n recs slots work₀ → Judgeable n recs slots work
judgeable-now n recs slots work₀ work long links states J = record {
  sized = resized J.sized long;
  small = λ x. rw (ap (λ (g : ℕ → ℕ). size_in g x) links) (J.small x);
  sizes = subst (λ (g : ℕ → ℕ). Sizes (view n recs slots) (walk_clusters n work) (size_in g)) (sym links)
      (subst (λ (g : ℕ → ℕ). Sizes (view n recs slots) (cluster_in g) (size_in (area n (8 * n) work₀))) (sym states) J.sizes);
  fits = λ x. rw (ap (λ (g : ℕ → ℕ). cluster_in g x) states) (J.fits x);
}

pub tally-start : (n : ℕ) (recs slots work₀ work : List ℕ) → Filling n 0 (λ x. 0) work₀ work n → Tallying n recs slots work work 0
unfolding outs_of sum
tally-start n recs slots work₀ work f = record {
  entry = λ c p q. f.filled c p q;
  most = λ c. go c (dec_le c n);
  others = λ b h. refl;
  long = refl;
}
  where
    go : (c : ℕ) → Dec (c ≤ n) → area n 0 work c ≤ 0
    go zero q = omega (arith, area-zero n 0 work)
    go (suc c) (yes q) = omega (arith, f.filled (suc c) (omega arith) q)
    go (suc c) (no q) = omega (arith, area-over n 0 work (suc c) (omega (arith, q)))

pub judging-cleared : (n : ℕ) (recs slots work₀ work : List ℕ) → Filling n 0 (λ x. 0) work₀ work n → Judgeable n recs slots work₀ → Judgeable n recs slots work
judging-cleared n recs slots work₀ work f J =
    judgeable-now n recs slots work₀ work f.long (f.others (8 * n) (inr (omega arith))) (f.others (9 * n) (inr (omega arith))) J

-- the words before the counts were cleared tell the same clusters
pub tally-end : (n : ℕ) (recs slots work₀ work₁ work : List ℕ) → Filling n 0 (λ x. 0) work₀ work₁ n → Tallying n recs slots work₁ work n → Tallying n recs slots work₀ work n
tally-end n recs slots work₀ work₁ work f t = record {
  entry = λ c p q. t.entry c p q
      ∙ ap (λ (g : ℕ → ℕ). outs_of n (view n recs slots).kids (view n recs slots).sink (cluster_in g) c) (f.others (9 * n) (inr (omega arith)));
  most = t.most;
  others = λ b h. t.others b h ∙ f.others b (inr (omega arith));
  long = t.long ∙ f.long;
}

count-read : (n : ℕ) (work : List ℕ) (c : ℕ) → c ≢ 0 → c ≤ n → get_or work c 0 ≡ area n 0 work c
count-read n work c p q =
    let e : c ≡ 0 + c = omega arith in
    ap (λ (i : ℕ). get_or work i 0) e ∙ area-read n 0 work c (omega (arith, p)) q

count-put : (work : List ℕ) (c v : ℕ) → set work c v ≡ set work (0 + c) v
count-put work c v =
    let e : c ≡ 0 + c = omega arith in
    ap (λ (i : ℕ). set work i v) e

module _ (n : ℕ) (recs slots work₀ work : List ℕ) (x : ℕ) (low : 1 ≤ x) (T : Tallying n recs slots work₀ work (x - 1)) (w : ℕ)
    (read : w ≡ area n (9 * n) work x) where
  abbrev c : ℕ
  c = w % 4096

  own-cluster : c ≡ walk_clusters n work₀ x
  own-cluster = ap (λ (v : ℕ). v % 4096) (read ∙ ap (λ (f : ℕ → ℕ). f x) (T.others (9 * n) (omega arith)))

  abbrev tot : ℕ → ℕ → ℕ
  tot j d = outs_of j (view n recs slots).kids (view n recs slots).sink (walk_clusters n work₀) d

  more : (d : ℕ) → tot x d ≡ tot (x - 1) d + cond (eqb (walk_clusters n work₀ x) d) (out_count (view n recs slots).sink (walk_clusters n work₀) d ((view n recs slots).kids x)) 0
  unfolding outs_of sum
  more d = go x low
    where
      go : (y : ℕ) → 1 ≤ y
          → tot y d ≡ tot (y - 1) d + cond (eqb (walk_clusters n work₀ y) d) (out_count (view n recs slots).sink (walk_clusters n work₀) d ((view n recs slots).kids y)) 0
      go zero p = absurd (omega arith)
      go (suc y) p = let e : suc y - 1 ≡ y = omega arith in rw e refl

  tally-skip : c ≡ 0 → Tallying n recs slots work₀ work x
  tally-skip z = record {
    entry = λ d p q.
        let b = ne_eqb (walk_clusters n work₀ x) d (λ e. absurd (omega (arith, own-cluster))) in
        T.entry d p q ∙ sym (rw b at (more d) ∙ (omega arith));
    most = λ d. omega (arith, T.most d);
    others = T.others;
    long = T.long;
  }

  module _ (nz : c ≢ 0) (fits : c ≤ n) (m p : ℕ) (ms : m ≡ outs_at n recs slots work x c) (few : m ≤ 8) (ps : p ≡ area n 0 work c)
      (room : n < length work) where
    abbrev work' : List ℕ
    work' = set work c (p + m)

    put : work' ≡ set work (0 + c) (p + m)
    put = count-put work c (p + m)

    counted : (d : ℕ) → area n 0 work' d ≡ upd (area n 0 work) c (p + m) d
    counted d = ap (λ (l : List ℕ). area n 0 l d) put ∙ area-put n 0 work c (p + m) (omega (arith, nz)) fits (omega arith) d

    m-is : m ≡ out_count (view n recs slots).sink (walk_clusters n work₀) c ((view n recs slots).kids x)
    unfolding outs_at
    m-is = ms ∙ ap (λ (f : ℕ → ℕ). out_count (view n recs slots).sink (cluster_in f) c ((view n recs slots).kids x)) (T.others (9 * n) (omega arith))

    tally-add : Tallying n recs slots work₀ work' x
    tally-add = record {
      entry = λ d a b. counted d ∙ go d a b (ℕ_discrete d c);
      most = λ d. rw (counted d) (top d (ℕ_discrete d c));
      others = λ b l. ap (area n b) put ∙ area-below n b work (0 + c) (p + m) (omega (arith, nz)) ∙ T.others b l;
      long = ap length put ∙ length-set work (0 + c) (p + m) ∙ T.long;
    }
      where
        go : (d : ℕ) → 1 ≤ d → d ≤ n → Dec (d ≡ c) → upd (area n 0 work) c (p + m) d ≡ tot x d
        go d a b (yes e) =
            rw (e, upd_same (area n 0 work) c (p + m))
            (let t = T.entry c (omega (arith, nz)) fits in
            let y = eq-eqb (walk_clusters n work₀ x) c (sym own-cluster) in
            let u = rw y at (more c) in omega (arith, m-is))
        go d a b (no e) =
            upd_other (area n 0 work) c d (p + m) e ∙ T.entry d a b
            ∙ sym ((rw (ne_eqb (walk_clusters n work₀ x) d (λ i. e (sym i ∙ sym own-cluster))) at (more d)) ∙ (omega arith))

        top : (d : ℕ) → Dec (d ≡ c) → upd (area n 0 work) c (p + m) d ≤ 8 * x
        top d (yes e) = rw (e, upd_same (area n 0 work) c (p + m)) (omega (arith, T.most c))
        top d (no e) = rw (upd_other (area n 0 work) c d (p + m) e) (omega (arith, T.most d))

pub read_fits : (n : ℕ) (work : List ℕ) (x w : ℕ) → w ≡ area n (9 * n) work x → walk_clusters n work x ≤ n → w % 4096 ≤ n
read_fits n work x w e h = rw e h

-- The out pointers of the objects 1 to k are counted, by the words after the counts were cleared.
pub record Counting (n : ℕ) (recs slots work₀ work : List ℕ) (k : ℕ) : Type 0 where
  pub start : Judgeable n recs slots work₀
  pub counted : Tallying n recs slots work₀ work k
  pub most : k ≤ n

module _ (n : ℕ) (recs slots work₀ work : List ℕ) (x : ℕ) (S : Counting n recs slots work₀ work (x - 1)) (low : 1 ≤ x) (h : x ≤ n) where
  judge-now : Judgeable n recs slots work
  judge-now = judgeable-now n recs slots work₀ work S.counted.long (S.counted.others (8 * n) (omega arith)) (S.counted.others (9 * n) (omega arith)) S.start

  abbrev own : ℕ
  own = get_or work (9 * n + x) 0

  own_read : own ≡ area n (9 * n) work x
  own_read = area-read n (9 * n) work x low h

  own-fits : own % 4096 ≤ n
  own-fits = read_fits n work x own own_read (judge-now.fits x)

  next : x + 1 - 1 ≡ x
  next = omega arith

  pub own-there : 9 * n + x < length work
  own-there = omega (arith, judge-now.sized.work-long)

  pub count-asks : Sized n recs slots work × (1 ≤ x) × (x ≤ n)
  count-asks = (judge-now.sized, low, h)

  pub count-skip : own % 4096 ≡ 0 → Counting n recs slots work₀ work (x + 1 - 1)
  count-skip z = rw next (record { start = S.start; counted = tally-skip n recs slots work₀ work x low S.counted own own_read z; most = h })

  module _ (nz : own % 4096 ≢ 0) where
    pub count-there : own % 4096 < length work
    count-there = omega (arith, own-fits, judge-now.sized.work-long, nz)

    pub count_fits : (m : ℕ) → m ≤ 8 → get_or work (own % 4096) 0 + m < 2 ^ 32
    count_fits m few = let a = S.counted.most (own % 4096) in omega (arith, few, count-read n work (own % 4096) nz own-fits, judge-now.sized.room.most)

    pub count_turn : (m : ℕ) → m ≡ outs_at n recs slots work x (own % 4096) → m ≤ 8
        → Counting n recs slots work₀ (set work (own % 4096) (get_or work (own % 4096) 0 + m)) (x + 1 - 1)
    count_turn m ms few = rw next (record {
      start = S.start;
      counted = tally-add n recs slots work₀ work x low S.counted own own_read nz own-fits m (get_or work (own % 4096) 0) ms few
          (count-read n work (own % 4096) nz own-fits) (omega (arith, judge-now.sized.work-long));
      most = h;
    })

-- ---- does a cluster stay?

pub stays_by_lem : (n : ℕ) (t : Tuning) (recs work : List ℕ) (c d : ℕ) → d ≡ cluster_of n recs c → (w p : ℕ) → w ≡ area n (8 * n) work c → p ≡ area n 0 work c
    → (b : Bool) → b ≡ lasts t (w / 4096) p → (eqb d 0 && not b) ≡ not (stays_in n t recs work c)
unfolding stays_in stays_by
stays_by_lem n t recs work c d is w p ws ps b o = rw (← is, ← ws, ← ps, ← o) (go (eqb d 0) b)
  where
    go : (e b : Bool) → (e && not b) ≡ not (not e || b)
    go true true = refl
    go true false = refl
    go false b = refl

-- ---- what an object is left with

module _ (n : ℕ) (t : Tuning) (recs slots work : List ℕ) (x c w : ℕ) (ws : w ≡ area n (9 * n) work x) (is : c ≡ w % 4096) where
  abbrev q : ℕ → Bool
  q = stays_in n t recs work

  own-formed : walk_clusters n work x ≡ c
  own-formed = ap (λ (v : ℕ). v % 4096) (sym ws) ∙ sym is

  abbrev out : ℕ → Bool
  out = out_bit (view n recs slots).kids (view n recs slots).sink (walk_clusters n work)

  word-is : left_word n t recs slots work x ≡ cond (q c) c 0 + 4096 * bit (q c && out x)
  unfolding left_word keep
  word-is =
      ap (λ (b : Bool). cond (q (walk_clusters n work x)) (walk_clusters n work x) 0 + 4096 * bit b) (out_bit-keep (view n recs slots).kids (view n recs slots).sink q (walk_clusters n work) x)
      ∙ ap (λ (v : ℕ). cond (q v) v 0 + 4096 * bit (q v && out x)) own-formed

  pub left-none : c ≡ 0 → 0 ≡ left_word n t recs slots work x
  left-none z = sym (word-is ∙ go (q c) (out x) out_none)
    where
      out_none : out x ≡ false
      out_none = out_bit-none (view n recs slots).kids (view n recs slots).sink (walk_clusters n work) x (own-formed ∙ z)

      go : (b o : Bool) → o ≡ false → cond b c 0 + 4096 * bit (b && o) ≡ 0
      go true o e = rw (e, z) refl
      go false o e = refl

  module _ (b : Bool) (e : b ≡ not (q c)) where
    pub left-gone : b ≡ true → 0 ≡ left_word n t recs slots work x
    left-gone f = sym (word-is ∙ rw (not-true (q c) (sym e ∙ f)) refl)

    pub left-kept : c ≢ 0 → b ≡ false → (m : ℕ) → m ≡ outs_at n recs slots work x c → c + 4096 * bit (not (eqb m 0)) ≡ left_word n t recs slots work x
    unfolding out_bit outs_at
    left-kept nz f m ms =
        let k : q c ≡ true = not-false (q c) (sym e ∙ f) in
        sym (word-is ∙ rw (k, own-formed, ne_eqb c 0 nz, ← ms) (go (ℕ_discrete m 0)))
      where
        go : Dec (m ≡ 0) → c + 4096 * bit (ltb 0 m) ≡ c + 4096 * bit (not (eqb m 0))
        go (yes z) = rw z refl
        go (no z) = rw (ne_eqb m 0 z, lt-ltb 0 m (omega (arith, z))) refl

-- ---- the pass that notes what each object is left with

module _ (n : ℕ) (recs slots work₀ work : List ℕ) (f : ℕ → ℕ) (k : ℕ) (F : Filling n n f work₀ work k) where
  counts_same : area n 0 work ≡ area n 0 work₀
  counts_same = F.others 0 (inl (omega arith))

  links-same : area n (8 * n) work ≡ area n (8 * n) work₀
  links-same = F.others (8 * n) (inr (omega arith))

  states-same : area n (9 * n) work ≡ area n (9 * n) work₀
  states-same = F.others (9 * n) (inr (omega arith))

  pub judging-now : Judgeable n recs slots work₀ → Judgeable n recs slots work
  judging-now J = judgeable-now n recs slots work₀ work F.long links-same states-same J

  stays_same : (t : Tuning) → stays_in n t recs work ≡ stays_in n t recs work₀
  unfolding stays_in
  stays_same t =
      fun_ext (λ c. ap₂ (λ (g h : ℕ → ℕ). stays_by t (cluster_of n recs c) (size_in g c) (h c)) links-same counts_same)

  pub left-same : (t : Tuning) (x : ℕ) → left_word n t recs slots work x ≡ left_word n t recs slots work₀ x
  unfolding left_word
  left-same t x =
      ap₂ (λ (g : ℕ → Bool) (h : ℕ → ℕ). keep g (cluster_in h) x + 4096 * bit (out_bit (view n recs slots).kids (view n recs slots).sink (keep g (cluster_in h)) x))
      (stays_same t) states-same
