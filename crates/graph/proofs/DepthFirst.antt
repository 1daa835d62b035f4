-- The walk by a list of visits is the recursive one, which has one end.
-- Assumes nothing.
use Prim.Native.Nat.{ℕ, zero, suc, ◌+◌, ◌≤◌, ◌<◌}
use mathlib.Core.Path.{◌≡◌, refl, sym, ap, ◌∙◌, subst}
use mathlib.Core.Bool.{Bool, true, false, not, cond, ◌&&◌, ◌||◌, or-true}
use mathlib.Core.List.{List, [], ◌∷◌, ◌++◌, append-nil, Memᴰ, cons≢nil}
use mathlib.Core.Logic.{◌≢◌, ◌⊎◌, inl, inr}
use native.Mathlib.Decide.{ℕ_discrete, dec_le}
use native.Mathlib.Nat.{le_refl, le_trans}
use native.Mathlib.Omega.{arith}
use lib.Dec.{leb, eqb}
use lib.ListN.{length-append}
use borrow.Author.Tests.{eq-eqb, ne_eqb, le-leb, lt-leb}
use Rattle.graph.specs.Numbers.{upd, gather}
use Rattle.graph.specs.Heap.{Heap}
use Rattle.graph.specs.Clusters.{size, sinks_at}
use Rattle.graph.specs.Analysis.{Item, Work, items, bars, Visit, skip, older, alone, join, head, pick, kind, visits_of_cluster, pushed, seen_by, cl_by, act, visit, step, begin, needed, finish, walked}
use Rattle.graph.specs.DepthFirst.{Known, placed, Fresh, Meets, Visits, Forms}
use Rattle.graph.specs.DepthFirst as Deep
use Rattle.graph.specs.Invariant.{Ready, Inv}
use Rattle.graph.proofs.NumberLaws.{upd_same, upd_other}
use Rattle.graph.proofs.AnalysisInv.{all_first, size-more}
use Rattle.graph.proofs.AnalysisEnds.{step-inv, step_falls, step-needed, begin-inv, older-same, inv-front, finish-step, finish-done}

-- the objects that the walk by a list counts as seen: of a handled cluster all
unfoldable seen_of : Heap → Known → ℕ → Bool
seen_of H k x = cond (eqb (H.cluster x) 0) (k.seen x) (k.handled (H.cluster x))

-- that walk with the visits l to make
abbrev at : Heap → List Item → Known → Work
at H l k = record { todo = l; seen = seen_of H k; cl = k.cl }

seen-new : (H : Heap) (k : Known) (x : ℕ) → H.cluster x ≡ 0 → seen_of H k x ≡ k.seen x
unfolding seen_of
seen-new H k x e = rw (eq-eqb (H.cluster x) 0 e) refl

seen-old : (H : Heap) (k : Known) (x : ℕ) → H.cluster x ≢ 0 → seen_of H k x ≡ k.handled (H.cluster x)
unfolding seen_of
seen-old H k x e = rw (ne_eqb (H.cluster x) 0 e) refl

-- one visit of both walks
module _ (H : Heap) (limit o c : ℕ) (R : Ready H) (k : Known) (rest : List Item)
    (I : Inv H limit (at H (record { obj = o; passed = c } ∷ rest) k)) where
  kind-by : (p q r s : Bool) → (eqb o 0 || seen_of H k o) ≡ p → not (eqb (k.cl o) 0) ≡ q → bars H o ≡ r
      → (not (eqb c 0) && leb (size H.n k.cl c + 1) limit) ≡ s → kind H limit (seen_of H k) k.cl o c ≡ pick p q r s
  unfolding kind
  kind-by p q r s e f g h = λ i. pick (e i) (f i) (g i) (h i)

  -- the walk by a list when it makes a visit of this kind
  step_by_lem : (v : Visit) → kind H limit (seen_of H k) k.cl o c ≡ v
      → step H limit (at H (record { obj = o; passed = c } ∷ rest) k) ≡ act H (seen_of H k) k.cl o c rest v
  unfolding step visit
  step_by_lem v e = ap (act H (seen_of H k) k.cl o c rest) e

  step_skip : (eqb o 0 || seen_of H k o) ≡ true → step H limit (at H (record { obj = o; passed = c } ∷ rest) k) ≡ at H rest k
  unfolding act pushed seen_by cl_by pick
  step_skip e = step_by_lem skip (kind-by true _ _ _ e refl refl refl)

  -- an older cluster has the members that it had before the analysis
  same-members : H.cluster o ≢ 0 → seen_of H k o ≡ false → (x : ℕ) → eqb (k.cl x) (k.cl o) ≡ eqb (H.cluster x) (H.cluster o)
  same-members nz u x = go (ℕ_discrete (H.cluster x) 0)
    where
      here : k.cl o ≡ H.cluster o
      here = I.kept o nz

      go : Dec (H.cluster x ≡ 0) → eqb (k.cl x) (k.cl o) ≡ eqb (H.cluster x) (H.cluster o)
      go (yes z) =
          ne_eqb (k.cl x) (k.cl o) (λ e. (older-same H limit R _ I o x u (λ j. nz (sym here ∙ j)) e).0 z)
          ∙ sym (ne_eqb (H.cluster x) (H.cluster o) (λ e. nz (sym e ∙ z)))
      go (no z) = rw (I.kept x z, here) refl

  -- the cluster of o is handled now
  abbrev handling : Known
  handling = record { handled = upd k.handled (H.cluster o) true; seen = k.seen; cl = k.cl }

  -- so all its members are seen
  seen-handled : H.cluster o ≢ 0 → (x : ℕ) → (eqb (H.cluster x) (H.cluster o) || seen_of H k x) ≡ seen_of H handling x
  seen-handled nz x = go (ℕ_discrete (H.cluster x) 0)
    where
      either : (a b : Bool) → (a || b) ≡ cond a true b
      either true b = refl
      either false b = refl

      go : Dec (H.cluster x ≡ 0) → (eqb (H.cluster x) (H.cluster o) || seen_of H k x) ≡ seen_of H handling x
      go (yes z) = rw (seen-new H k x z, seen-new H handling x z, ne_eqb (H.cluster x) (H.cluster o) (λ e. nz (sym e ∙ z))) refl
      go (no z) = rw (seen-old H k x z, seen-old H handling x z) (unfold upd in (either (eqb (H.cluster x) (H.cluster o)) _))

  -- an object of no older cluster is seen now
  seen_placed : (v : ℕ) → H.cluster o ≡ 0 → (x : ℕ) → upd (seen_of H k) o true x ≡ seen_of H (placed o v k) x
  unfolding seen_of
  seen_placed v z x = go (ℕ_discrete x o)
    where
      go : Dec (x ≡ o) → upd (seen_of H k) o true x ≡ seen_of H (placed o v k) x
      go (yes e) = rw (e, upd_same (seen_of H k) o true, eq-eqb (H.cluster o) 0 z, upd_same k.seen o true) refl
      go (no e) = rw (upd_other (seen_of H k) o x true e, upd_other k.seen o x true e) refl

  -- an object that joins nothing stays in no cluster
  none-placed : k.cl o ≡ 0 → (x : ℕ) → k.cl x ≡ upd k.cl o 0 x
  none-placed z x = go (ℕ_discrete x o)
    where
      go : Dec (x ≡ o) → k.cl x ≡ upd k.cl o 0 x
      go (yes e) = rw (e, upd_same k.cl o 0) z
      go (no e) = sym (upd_other k.cl o x 0 e)

  free : Fresh H k o → k.cl o ≡ 0
  free f = I.unseen o (seen-new H k o f.1 ∙ f.2) ∙ f.1

  fresh-kind : Fresh H k o → (r s : Bool) → (H.written o || H.sink o) ≡ r
      → (not (eqb c 0) && leb (size H.n k.cl c + 1) limit) ≡ s → kind H limit (seen_of H k) k.cl o c ≡ pick false false r s
  unfolding bars
  fresh-kind f r s g h =
      kind-by false false r s (rw (ne_eqb o 0 f.0, seen-new H k o f.1) f.2) (rw (eq-eqb (k.cl o) 0 (free f)) refl) g h

  -- the cluster passed, with o in it
  size-then : Fresh H k o → c ≢ 0 → size H.n (placed o c k).cl c ≡ size H.n k.cl c + 1
  size-then f nz = size-more H.n k.cl o c (free f) nz f.0 (all_first I.visits).fits

  no_room : Fresh H k o → (c ≢ 0 → limit < size H.n (placed o c k).cl c) → (not (eqb c 0) && leb (size H.n k.cl c + 1) limit) ≡ false
  no_room f h = go (ℕ_discrete c 0)
    where
      go : Dec (c ≡ 0) → (not (eqb c 0) && leb (size H.n k.cl c + 1) limit) ≡ false
      go (yes e) = rw (eq-eqb c 0 e) refl
      go (no e) = rw (ne_eqb c 0 e) (lt-leb (size H.n k.cl c + 1) limit (rw (← size-then f e) (h e)))

  meets-step : {l : List ℕ} {d : ℕ} {k' : Known} → Meets H limit o c k l d k'
      → step H limit (at H (record { obj = o; passed = c } ∷ rest) k) ≡ at H (items d l ++ rest) k'
  unfolding act pushed seen_by cl_by pick items visits_of_cluster
  meets-step (Deep.nil e) = step_skip (rw (eq-eqb o 0 e) refl)
  meets-step (Deep.again nz h) = step_skip (rw (seen-old H k o nz ∙ h, or-true) refl)
  meets-step (Deep.seen z h) = step_skip (rw (seen-new H k o z ∙ h, or-true) refl)
  meets-step (Deep.older nz h) =
      let u : seen_of H k o ≡ false = seen-old H k o nz ∙ h in
      step_by_lem older
      (kind-by false true _ _ (rw (ne_eqb o 0 (λ e. nz (ap H.cluster e ∙ R.zero-none)), u) refl)
      (rw (ne_eqb (k.cl o) 0 (λ e. nz (sym (I.kept o nz) ∙ e))) refl) refl refl)
      ∙ (λ i. record {
        todo = items 0 (gather H.n (λ x. same-members nz u x i && H.out x) H.kids ++ sinks_at H (I.kept o nz i)) ++ rest;
        seen = λ x. (same-members nz u x i || seen_of H k x);
        cl = k.cl;
      })
      ∙ (λ i. record {
        todo = items 0 (gather H.n (λ x. eqb (H.cluster x) (H.cluster o) && H.out x) H.kids ++ sinks_at H (H.cluster o)) ++ rest;
        seen = λ x. seen-handled nz x i;
        cl = k.cl;
      })
  meets-step (Deep.alone f b) =
      step_by_lem alone (fresh-kind f true _ b refl)
      ∙ (λ i. record { todo = items 0 (H.kids o) ++ rest; seen = λ x. seen_placed 0 f.1 x i; cl = λ x. none-placed (free f) x i })
  meets-step (Deep.joins f b nz le) =
      step_by_lem join (fresh-kind f false true b (rw (ne_eqb c 0 nz) (le-leb (size H.n k.cl c + 1) limit (rw (← size-then f nz) le))))
      ∙ (λ i. record { todo = items c (H.kids o) ++ rest; seen = λ x. seen_placed c f.1 x i; cl = upd k.cl o c })
  meets-step (Deep.heads f b h) =
      step_by_lem head (fresh-kind f false false b (no_room f h))
      ∙ (λ i. record { todo = items o (H.kids o) ++ rest; seen = λ x. seen_placed o f.1 x i; cl = upd k.cl o o })

-- what a visit leads to, and the state after it
record Met (H : Heap) (limit o c : ℕ) (k : Known) : Type 0 where
  objects : List ℕ
  passes : ℕ
  then : Known
  meets : Meets H limit o c k objects passes then

-- every visit is one of the seven
met : (H : Heap) (limit o c : ℕ) (k : Known) → Met H limit o c k
met H limit o c k = go (ℕ_discrete o 0) (ℕ_discrete (H.cluster o) 0)
  where
    fresh : Fresh H k o → (b : Bool) → (H.written o || H.sink o) ≡ b → Dec (c ≡ 0) → Dec (size H.n (placed o c k).cl c ≤ limit) → Met H limit o c k
    fresh f true e x y = record { objects = _; passes = _; then = _; meets = Deep.alone f e }
    fresh f false e (no nz) (yes le) = record { objects = _; passes = _; then = _; meets = Deep.joins f e nz le }
    fresh f false e (yes z) y = record { objects = _; passes = _; then = _; meets = Deep.heads f e (λ nz. absurd (nz z)) }
    fresh f false e (no nz) (no gt) = record { objects = _; passes = _; then = _; meets = Deep.heads f e (λ i. omega (arith, gt)) }

    in-older : H.cluster o ≢ 0 → (b : Bool) → k.handled (H.cluster o) ≡ b → Met H limit o c k
    in-older nz true e = record { objects = _; passes = _; then = _; meets = Deep.again nz e }
    in-older nz false e = record { objects = _; passes = _; then = _; meets = Deep.older nz e }

    in-none : o ≢ 0 → H.cluster o ≡ 0 → (b : Bool) → k.seen o ≡ b → Met H limit o c k
    in-none p z true e = record { objects = _; passes = _; then = _; meets = Deep.seen z e }
    in-none p z false e = fresh (p, z, e) (H.written o || H.sink o) refl (ℕ_discrete c 0) (dec_le (size H.n (placed o c k).cl c) limit)

    go : Dec (o ≡ 0) → Dec (H.cluster o ≡ 0) → Met H limit o c k
    go (yes e) y = record { objects = _; passes = _; then = _; meets = Deep.nil e }
    go (no p) (yes z) = in-none p z (k.seen o) refl
    go (no p) (no nz) = in-older nz (k.handled (H.cluster o)) refl

module _ (H : Heap) (limit : ℕ) (R : Ready H) (p : 1 ≤ limit) where
  -- where the recursive walk comes to the end of its list, the walk by a list has only the visits after it to make
  visits-finish : {c : ℕ} {l : List ℕ} {k k' : Known} → Visits H limit c l k k' → (rest : List Item) → Inv H limit (at H (items c l ++ rest) k)
      → (finish H limit (at H (items c l ++ rest) k) ≡ finish H limit (at H rest k')) × Inv H limit (at H rest k')
      × (needed H (at H rest k') ≤ needed H (at H (items c l ++ rest) k))
  unfolding items
  visits-finish (Deep.none {k}) rest I = (refl, I, le_refl _)
  visits-finish (Deep.first {o} {c} {l} {k} m a b) rest I =
      let e = meets-step H limit o c R k (items c l ++ rest) I m in
      let x = visits-finish a (items c l ++ rest) (subst (λ (w : Work). Inv H limit w) e (step-inv H limit R p _ I)) in
      let y = visits-finish b rest x.1 in
      let n = subst (λ (w : Work). needed H w ≤ needed H (at H (record { obj = o; passed = c } ∷ (items c l ++ rest)) k)) e (step-needed H limit R p _ I) in
      (sym (finish-step H limit R p _ I) ∙ ap (finish H limit) e ∙ x.0 ∙ y.0, y.1, le_trans y.2 (le_trans x.2 n))

  -- and it comes to that end
  visits-end : (f c : ℕ) (l : List ℕ) (k : Known) → Inv H limit (at H (items c l) k) → needed H (at H (items c l) k) ≤ f
      → (k' : Known) × Visits H limit c l k k'
  unfolding items
  visits-end zero c [] k I le = (k, Deep.none)
  visits-end (suc f) c [] k I le = (k, Deep.none)
  visits-end zero c (o ∷ l) k I le = absurd (unfold needed in omega arith)
  visits-end (suc f) c (o ∷ l) k I le =
      let t = met H limit o c k in
      let e = meets-step H limit o c R k (items c l) I t.meets in
      let J = subst (λ (w : Work). Inv H limit w) e (step-inv H limit R p _ I) in
      let n = fewer (subst (λ (w : Work). needed H w < needed H (at H (items c (o ∷ l)) k)) e (falls (step_falls H limit R p _ I))) le in
      let a = visits-end f t.passes t.objects t.then (inv-front H limit (items t.passes t.objects) (items c l) _ _ J)
      (le_trans (front (items t.passes t.objects) (items c l) t.then) n) in
      let x = visits-finish a.1 (items c l) J in
      both t.meets a.1 (visits-end f c l a.0 x.1 (le_trans x.2 n))
    where
      both : {m : List ℕ} {d : ℕ} {k₁ k₂ : Known} → Meets H limit o c k m d k₁ → Visits H limit d m k₁ k₂ → (k' : Known) × Visits H limit c l k₂ k'
          → (k' : Known) × Visits H limit c (o ∷ l) k k'
      both m a b = (b.0, Deep.first m a b.1)

      falls : {i : Item} {m : List Item} {j h : ℕ} → ((i ∷ m) ≡ []) ⊎ (j < h) → j < h
      falls (inl e) = absurd (cons≢nil e)
      falls (inr s) = s

      fewer : {j h : ℕ} → j < h → h ≤ suc f → j ≤ f
      fewer s l = omega arith

      front : (a b : List Item) (k : Known) → needed H (at H a k) ≤ needed H (at H (a ++ b) k)
      front a b k = unfold needed in (let e = length-append a b in omega arith)

module _ (H : Heap) (limit : ℕ) (from : List ℕ) (R : Ready H) (p : 1 ≤ limit) (h : (k : ℕ) → Memᴰ k from → k ≤ H.n) where
  abbrev start : Known
  start = record { handled = λ h. false; seen = λ x. false; cl = H.cluster }

  same_start : begin H from ≡ at H (items 0 from) start
  unfolding begin seen_of
  same_start i = record { todo = items 0 from; seen = λ x. either (eqb (H.cluster x) 0) i; cl = H.cluster }
    where
      either : (b : Bool) → false ≡ cond b false false
      either true = refl
      either false = refl

  started : Inv H limit (at H (items 0 from) start)
  started = subst (λ (w : Work). Inv H limit w) same_start (begin-inv H limit from R h)

  -- it ends with the clusters of the walk by a list
  ends_as : (k : Known) → Visits H limit 0 from start k → k.cl ≡ walked H limit from
  unfolding walked
  ends_as k v =
      let e = (visits-finish H limit R p v [] (rw append-nil started)).0 in
      sym (ap (λ (w : Work). w.cl) (ap (finish H limit) same_start ∙ rw append-nil at e ∙ finish-done H limit R p (at H [] k) refl))

  -- the walk of the analysis is the recursive one
  pub forms : Forms H limit from (walked H limit from)
  forms = let t = visits-end H limit R p _ 0 from start started (le_refl _) in (t.0, t.1, ends_as t.0 t.1)

  -- and that has one end
  pub forms-one : (cl : ℕ → ℕ) → Forms H limit from cl → cl ≡ walked H limit from
  forms-one cl t = sym t.2 ∙ ends_as t.0 t.1
