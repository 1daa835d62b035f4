-- What holds at each step of the walk: its clusters are connected, older ones stay as they are, written objects and sinks join nothing, and a
-- new cluster has at most the limit.
-- Assumes nothing.
use Prim.Native.Nat.{ℕ, ◌+◌, ◌≤◌}
use mathlib.Core.Path.{◌≡◌, refl, sym, ap, ap₂, ◌∙◌}
use mathlib.Core.Bool.{Bool, true, false, not, ◌&&◌, ◌||◌, true≢false}
use mathlib.Core.List.Memᴰ
use mathlib.Core.List.{List, [], ◌∷◌, ◌++◌, Memᴰ}
use mathlib.Core.Logic.{◌≢◌, ◌⊎◌, inl, inr}
use native.Mathlib.Decide.{ℕ_discrete}
use native.Mathlib.Omega.{arith}
use lib.Dec.{leb, eqb}
use borrow.Author.Tests.{eqb-true, eqb-false, eq-eqb, ne_eqb, not-true, not-false, leb-true}
use Rattle.graph.specs.Numbers.{upd, count, bit, gather}
use Rattle.graph.specs.Heap.{Heap}
use Rattle.graph.specs.Clusters.{size, sinks_at}
use Rattle.graph.specs.Analysis.{Item, Work, items, bars, Visit, skip, older, alone, join, head, pick, kind, visits_of_cluster, pushed, seen_by, cl_by, act}
use Rattle.graph.specs.Invariant.{Connected, Heads, All, none, both, Ok, Ready, Inv}
use Rattle.graph.proofs.NumberLaws.{upd_same, upd_other, sum-ext, sum_bump, sum-zero, gather-all}
pub use Rattle.graph.proofs.NumberLaws.{and_split}
use Rattle.graph.proofs.Paths.{heads-upd, upd-keeps, connected-join, connected-new}
use Rattle.graph.proofs.SinkLaws.{sink-plain}

-- ---- what the tests tell

-- an object that is not seen, in no cluster, and may join one
pub record Free (H : Heap) (seen : ℕ → Bool) (cl : ℕ → ℕ) (o : ℕ) : Type 0 where
  pub nonzero : o ≢ 0
  pub unseen : seen o ≡ false
  pub none : cl o ≡ 0
  pub open-to : bars H o ≡ false

abbrev pub Facts : Heap → ℕ → (ℕ → Bool) → (ℕ → ℕ) → ℕ → ℕ → Visit → Type 0
Facts H limit seen cl o c skip = (o ≡ 0) ⊎ (seen o ≡ true)
Facts H limit seen cl o c older = (o ≢ 0) × (seen o ≡ false) × (cl o ≢ 0)
Facts H limit seen cl o c alone = (o ≢ 0) × (seen o ≡ false) × (cl o ≡ 0) × (bars H o ≡ true)
Facts H limit seen cl o c join = Free H seen cl o × (c ≢ 0) × (size H.n cl c + 1 ≤ limit)
Facts H limit seen cl o c head = Free H seen cl o

-- tests that are true or false as a whole
pub or_split : (a b : Bool) → (a || b) ≡ false → (a ≡ false) × (b ≡ false)
or_split true b e = absurd (true≢false e)
or_split false b e = (refl, e)

pub facts : (H : Heap) (limit : ℕ) (seen : ℕ → Bool) (cl : ℕ → ℕ) (o c : ℕ) → Facts H limit seen cl o c (kind H limit seen cl o c)
unfolding kind pick
facts H limit seen cl o c = go _ _ _ _ refl refl refl refl
  where
    nz : (eqb o 0 || seen o) ≡ false → o ≢ 0
    nz e = eqb-false o 0 (or_split (eqb o 0) (seen o) e).0

    us : (eqb o 0 || seen o) ≡ false → seen o ≡ false
    us e = (or_split (eqb o 0) (seen o) e).1

    free : (eqb o 0 || seen o) ≡ false → not (eqb (cl o) 0) ≡ false → bars H o ≡ false → Free H seen cl o
    free e f g = record { nonzero = nz e; unseen = us e; none = eqb-true (cl o) 0 (not-false (eqb (cl o) 0) f); open-to = g }

    met : (a b : Bool) → eqb o 0 ≡ a → seen o ≡ b → (a || b) ≡ true → (o ≡ 0) ⊎ (seen o ≡ true)
    met true b e f g = inl (eqb-true o 0 e)
    met false b e f g = inr (f ∙ g)

    go : (p q r s : Bool) → (eqb o 0 || seen o) ≡ p → not (eqb (cl o) 0) ≡ q → bars H o ≡ r
        → (not (eqb c 0) && leb (size H.n cl c + 1) limit) ≡ s → Facts H limit seen cl o c (pick p q r s)
    go true q r s e f g h = met (eqb o 0) (seen o) refl refl e
    go false true r s e f g h = (nz e, us e, eqb-false (cl o) 0 (not-true (eqb (cl o) 0) f))
    go false false true s e f g h = (nz e, us e, eqb-true (cl o) 0 (not-false (eqb (cl o) 0) f), g)
    go false false false true e f g h =
        let t = and_split (not (eqb c 0)) (leb (size H.n cl c + 1) limit) h in
        (free e f g, eqb-false c 0 (not-true (eqb c 0) t.0), leb-true (size H.n cl c + 1) limit t.1)
    go false false false false e f g h = free e f g

-- ---- the visits to make

pub all_append : {P : Item → Type 0} {l m : List Item} → All P l → All P m → All P (l ++ m)
all_append none b = b
all_append (both p a) b = both p (all_append a b)

pub all_map : {P Q : Item → Type 0} {l : List Item} → ((i : Item) → P i → Q i) → All P l → All Q l
all_map f none = none
all_map f (both {i} p a) = both (f i p) (all_map f a)

pub all-items : {P : Item → Type 0} (c : ℕ) (l : List ℕ) → ((k : ℕ) → Memᴰ k l → P (record { obj = k; passed = c })) → All P (items c l)
unfolding items
all-items c [] h = none
all-items c (k ∷ l) h = both (h k (Memᴰ.head refl)) (all-items c l (λ j m. h j (Memᴰ.tail m)))

pub all-front : {P : Item → Type 0} (l m : List Item) → All P (l ++ m) → All P l
all-front [] m a = none
all-front (i ∷ l) m (both p a) = both p (all-front l m a)

pub all_first : {P : Item → Type 0} {i : Item} {l : List Item} → All P (i ∷ l) → P i
all_first (both p a) = p

pub all_rest : {P : Item → Type 0} {i : Item} {l : List Item} → All P (i ∷ l) → All P l
all_rest (both p a) = a

-- heads are objects
pub head-range : {H : Heap} {limit : ℕ} {w : Work} → Inv H limit w → (x : ℕ) → w.cl x ≢ 0 → w.cl x ≤ H.n
head-range {w} I x q = I.range (w.cl x) (λ j. q (sym (I.heads x q) ∙ j))

-- the cluster that a visit passes is 0 or one of them
pub passed-range : {H : Heap} {limit : ℕ} {w : Work} → Inv H limit w → (i : Item) → Ok H w.cl i → i.passed ≤ H.n
passed-range {H} {w} I i k = go (ℕ_discrete i.passed 0)
  where
    go : Dec (i.passed ≡ 0) → i.passed ≤ H.n
    go (yes e) = omega arith
    go (no e) = let t = k.from e in rw (← t.1) (head-range I t.0 (λ j. e (sym t.1 ∙ j)))

-- ---- sizes

-- o, of no cluster, gets the number v: v's cluster has one more, each other as many as before
pub size-other : (n : ℕ) (cl : ℕ → ℕ) (o v c : ℕ) → cl o ≡ 0 → c ≢ 0 → c ≢ v → size n (upd cl o v) c ≡ size n cl c
unfolding size count
size-other n cl o v c e p h = sum-ext n _ _ (λ x a b. ap bit (go x (ℕ_discrete x o)))
  where
    go : (x : ℕ) → Dec (x ≡ o) → eqb (upd cl o v x) c ≡ eqb (cl x) c
    go x (yes i) = rw (i, upd_same cl o v, e) (ne_eqb v c (λ j. h (sym j)) ∙ sym (ne_eqb 0 c (λ j. p (sym j))))
    go x (no i) = rw (upd_other cl o x v i) refl

pub size-more : (n : ℕ) (cl : ℕ → ℕ) (o v : ℕ) → cl o ≡ 0 → v ≢ 0 → o ≢ 0 → o ≤ n → size n (upd cl o v) v ≡ size n cl v + 1
unfolding size count
size-more n cl o v e p q r =
    sum_bump n o 1 (λ x. bit (eqb (cl x) v)) (λ x. bit (eqb (upd cl o v x) v)) (omega (arith, q)) r
    (rw (upd_same cl o v, eq-eqb v v refl, e, ne_eqb 0 v (λ i. p (sym i))) refl)
    (λ x i. rw upd_other refl)

-- an object of no cluster heads none
pub size_none : (H : Heap) (cl : ℕ → ℕ) (o : ℕ) → Heads cl → cl o ≡ 0 → o ≢ 0 → size H.n cl o ≡ 0
unfolding size count
size_none H cl o h e p = sum-zero H.n (λ x. bit (eqb (cl x) o)) (λ x a b. go x)
  where
    other : (x : ℕ) → cl x ≢ o
    other x i = p (sym (h x (λ j. p (sym i ∙ j)) ∙ i) ∙ ap cl i ∙ e)

    go : (x : ℕ) → bit (eqb (cl x) o) ≡ 0
    go x = rw (ne_eqb (cl x) o (other x)) refl

-- ---- the steps

-- o, free, gets the number v of a new cluster with room
module _ (H : Heap) (limit : ℕ) (R : Ready H) (seen : ℕ → Bool) (cl : ℕ → ℕ) (i : Item) (rest : List Item)
    (I : Inv H limit (record { todo = i ∷ rest; seen = seen; cl = cl })) where
  pub in-range : i.obj ≤ H.n
  in-range = (all_first I.visits).fits

  -- an object that is not seen and has no cluster had none before
  pub no-older : seen i.obj ≡ false → cl i.obj ≡ 0 → H.cluster i.obj ≡ 0
  no-older e f = sym (I.unseen i.obj e) ∙ f

  -- such an object may be seen: that splits no older cluster
  pub whole-upd : H.cluster i.obj ≡ 0 → (x y : ℕ) → H.cluster x ≢ 0 → H.cluster x ≡ H.cluster y
      → upd seen i.obj true x ≡ upd seen i.obj true y
  whole-upd e x y p q =
      upd_other seen i.obj x true (λ j. p (ap H.cluster j ∙ e)) ∙ I.whole x y p q
      ∙ sym (upd_other seen i.obj y true (λ j. p (q ∙ ap H.cluster j ∙ e)))

  pub grow : (v : ℕ) → Free H seen cl i.obj → v ≢ 0 → H.cluster v ≡ 0
      → (Connected H.kids cl → Connected H.kids (upd cl i.obj v)) → upd cl i.obj v v ≡ v
      → size H.n cl v + 1 ≤ limit
      → Inv H limit (record { todo = items v (H.kids i.obj) ++ rest; seen = upd seen i.obj true; cl = upd cl i.obj v })
  grow v F p e h g s = record {
    conn = λ k. h (I.conn k);
    heads = heads-upd cl o v I.heads F.none g;
    visits = all_append (all-items v (H.kids o) (λ k m. record { fits = R.closed o k m; from = λ q. (o, upd_same cl o v, m, e) }))
        (all_map wider (all_rest I.visits));
    unseen = λ x q. unseen' x q (ℕ_discrete x o);
    whole = whole-upd (no-older F.unseen F.none);
    kept = λ x q. kept' x q (ℕ_discrete x o);
    fresh = λ x q r. fresh' x q r (ℕ_discrete x o);
    barred = λ x q. barred' x q (ℕ_discrete x o);
    zero-none = upd_other cl o 0 v (λ j. F.nonzero (sym j)) ∙ I.zero-none;
    range = λ x q. range' x q (ℕ_discrete x o);
    small = λ c q r. small' c q r (ℕ_discrete c v);
  }
    where
      o : ℕ
      o = i.obj

      wider : (j : Item) → Ok H cl j → Ok H (upd cl o v) j
      wider j k = record {
        fits = k.fits;
        from = λ q. let t = k.from q in (t.0, upd-keeps cl o v j.passed t.0 F.none q t.1, t.2, t.3);
      }

      unseen' : (x : ℕ) → upd seen o true x ≡ false → Dec (x ≡ o) → upd cl o v x ≡ H.cluster x
      unseen' x q (yes j) = absurd (true≢false (sym (upd_same seen o true) ∙ ap (upd seen o true) (sym j) ∙ q))
      unseen' x q (no j) = upd_other cl o x v j ∙ I.unseen x (sym (upd_other seen o x true j) ∙ q)

      kept' : (x : ℕ) → H.cluster x ≢ 0 → Dec (x ≡ o) → upd cl o v x ≡ H.cluster x
      kept' x q (yes j) = absurd (q (ap H.cluster j ∙ no-older F.unseen F.none))
      kept' x q (no j) = upd_other cl o x v j ∙ I.kept x q

      fresh' : (x : ℕ) → H.cluster x ≡ 0 → upd cl o v x ≢ 0 → Dec (x ≡ o) → H.cluster (upd cl o v x) ≡ 0
      fresh' x q r (yes j) = rw (j, upd_same cl o v) e
      fresh' x q r (no j) = rw (upd_other cl o x v j) (I.fresh x q (λ k. r (upd_other cl o x v j ∙ k)))

      barred' : (x : ℕ) → bars H x ≡ true → Dec (x ≡ o) → upd cl o v x ≡ H.cluster x
      barred' x q (yes j) = absurd (true≢false (sym q ∙ ap (bars H) j ∙ F.open-to))
      barred' x q (no j) = upd_other cl o x v j ∙ I.barred x q

      range' : (x : ℕ) → upd cl o v x ≢ 0 → Dec (x ≡ o) → x ≤ H.n
      range' x q (yes j) = rw j in-range
      range' x q (no j) = I.range x (λ k. q (upd_other cl o x v j ∙ k))

      small' : (c : ℕ) → c ≢ 0 → H.cluster c ≡ 0 → Dec (c ≡ v) → size H.n (upd cl o v) c ≤ limit
      small' c q r (yes j) = rw (j, size-more H.n cl o v F.none p F.nonzero in-range) s
      small' c q r (no j) = let a = size-other H.n cl o v c F.none q j in let b = I.small c q r in omega arith

  -- only what is seen grows, and what is visited passes on no cluster
  pub look : (seen' : ℕ → Bool) (l : List ℕ) → ((x : ℕ) → seen' x ≡ false → seen x ≡ false)
      → ((x y : ℕ) → H.cluster x ≢ 0 → H.cluster x ≡ H.cluster y → seen' x ≡ seen' y) → ((k : ℕ) → Memᴰ k l → k ≤ H.n)
      → Inv H limit (record { todo = items 0 l ++ rest; seen = seen'; cl = cl })
  look seen' l g v h = record {
    conn = I.conn;
    heads = I.heads;
    visits = all_append (all-items 0 l (λ k m. record { fits = h k m; from = λ q. absurd (q refl) })) (all_rest I.visits);
    unseen = λ x q. I.unseen x (g x q);
    whole = v;
    kept = I.kept;
    fresh = I.fresh;
    barred = I.barred;
    zero-none = I.zero-none;
    range = I.range;
    small = I.small;
  }

  pub upd-seen : (x : ℕ) → upd seen i.obj true x ≡ false → seen x ≡ false
  upd-seen x e = go (ℕ_discrete x i.obj)
    where
      go : Dec (x ≡ i.obj) → seen x ≡ false
      go (yes j) = absurd (true≢false (sym (upd_same seen i.obj true) ∙ ap (upd seen i.obj true) (sym j) ∙ e))
      go (no j) = sym (upd_other seen i.obj x true j) ∙ e

  pub acts : 1 ≤ limit → (k : Visit) → Facts H limit seen cl i.obj i.passed k → Inv H limit (act H seen cl i.obj i.passed rest k)
  unfolding act pushed seen_by cl_by items visits_of_cluster
  acts l skip f = look seen [] (λ x e. e) I.whole (λ k m. absurd (Memᴰ.not-nil m))
  acts l older f =
      look _ _ (λ x e. (or_split (eqb (cl x) (cl i.obj)) (seen x) e).1)
      (λ x y p q. ap₂ (λ a b. eqb a (cl i.obj) || b) (I.kept x p ∙ q ∙ sym (I.kept y (λ j. p (q ∙ j)))) (I.whole x y p q))
      (λ k m. visits k (Memᴰ.append_cases _ m))
    where
      visits : (k : ℕ) → Memᴰ k (gather H.n (λ x. eqb (cl x) (cl i.obj) && H.out x) H.kids) ⊎ Memᴰ k (sinks_at H (cl i.obj)) → k ≤ H.n
      visits k (inl m) = gather-all (λ k. k ≤ H.n) H.n _ H.kids (λ x q k m. R.closed x k m) k m
      visits k (inr m) = (sink-plain H R.listed_in (cl i.obj) k m).0.1
  acts l alone f = look _ _ upd-seen (whole-upd (no-older f.1 f.2)) (R.closed i.obj)
  acts l join f =
      let t = (all_first I.visits).from f.1 in
      let h : cl i.passed ≡ i.passed = rw (← t.1) (I.heads t.0 (λ j. f.1 (sym t.1 ∙ j))) in
      grow i.passed f.0 f.1 t.3
      (λ k. connected-join H.kids cl i.obj i.passed t.0 k f.0.none f.1 t.1 t.2)
      (upd-keeps cl i.obj i.passed i.passed i.passed f.0.none f.1 h) f.2
  acts l head f =
      let e = size_none H cl i.obj I.heads f.none f.nonzero in
      grow i.obj f f.nonzero (no-older f.unseen f.none) (λ k. connected-new H.kids cl i.obj k f.none)
      (upd_same cl i.obj i.obj) (omega arith)
