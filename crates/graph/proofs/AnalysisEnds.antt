-- The walk keeps its invariant and ends: each step takes at least one from the visits to make, and the slots and sets of objects not seen.
-- The slots that a visit puts in front, its sinks left out, were among those of objects not seen.
-- Assumes nothing.
use Prim.Native.Nat.{ℕ, zero, suc, ◌+◌, ◌*◌, ◌≤◌, ◌<◌}
use mathlib.Core.Path.{◌≡◌, refl, sym, ap, ◌∙◌, subst}
use mathlib.Core.Bool.{Bool, true, false, cond, ◌&&◌, ◌||◌, true≢false}
use mathlib.Core.List.{List, [], ◌∷◌, ◌++◌, append_assoc, Memᴰ, cons≢nil}
use mathlib.Core.Logic.{◌≢◌, ◌⊎◌, inl, inr}
use native.Mathlib.Nat.{zero-add, le_refl, le_of_lt}
use native.Mathlib.Omega.{arith}
use lib.Dec.{eqb}
use lib.ListN.{length, length-append}
use borrow.Author.Tests.{eqb-true, eq-eqb, ne_eqb}
use Rattle.graph.specs.Numbers.{Obj, upd, sum, gather}
use Rattle.graph.specs.Heap.{Heap}
use Rattle.graph.specs.Clusters.{sinks_at}
use Rattle.graph.specs.Run as Run
use Rattle.graph.specs.Run.{run}
use Rattle.graph.specs.Analysis.{Item, Work, items, Visit, skip, older, alone, join, head, kind, visits_of_cluster, pushed, seen_by, cl_by, act, visit, step, begin, needed, finish}
use Rattle.graph.specs.Invariant.{Ready, Inv, unseen_slots}
use Rattle.graph.proofs.NumberLaws.{upd_same, upd_other, sum-most, sum_mono, sum_bump, sum-add, sum-at, length-gather}
use Rattle.graph.proofs.RunLaws as Runs
use Rattle.graph.proofs.AnalysisInv.{Facts, facts, all-items, all-front, acts, size_none, in-range}

-- ---- the invariant holds throughout

visit-inv : (H : Heap) (limit : ℕ) → Ready H → 1 ≤ limit → (seen : ℕ → Bool) (cl : ℕ → ℕ) (l : List Item)
    → Inv H limit (record { todo = l; seen = seen; cl = cl }) → Inv H limit (visit H limit seen cl l)
unfolding visit
visit-inv H limit R p seen cl [] I = I
visit-inv H limit R p seen cl (i ∷ rest) I = acts H limit R seen cl i rest I p _ (facts H limit seen cl i.obj i.passed)

pub step-inv : (H : Heap) (limit : ℕ) → Ready H → 1 ≤ limit → (w : Work) → Inv H limit w → Inv H limit (step H limit w)
unfolding step
step-inv H limit R p w I = visit-inv H limit R p w.seen w.cl w.todo I

-- any starts in range will do
pub begin-inv : (H : Heap) (limit : ℕ) (from : List ℕ) → Ready H → ((k : ℕ) → Memᴰ k from → k ≤ H.n) → Inv H limit (begin H from)
unfolding begin
begin-inv H limit from R h = record {
  conn = λ k. k;
  heads = R.heads;
  visits = all-items 0 from (λ k m. record { fits = h k m; from = λ q. absurd (q refl) });
  unseen = λ x e. refl;
  whole = λ x y p q. refl;
  kept = λ x e. refl;
  fresh = λ x e p. absurd (p e);
  barred = λ x e. refl;
  zero-none = R.zero-none;
  range = R.range;
  small = λ c p e. let a = size_none H H.cluster c R.heads e p in omega arith;
}

-- ---- the measure

-- what the objects that are not seen weigh, x with g x
unfoldable weighed : Heap → (ℕ → ℕ) → (ℕ → Bool) → ℕ
weighed H g seen = sum H.n (λ x. cond (seen x) 0 (g x))

pub length-items : (c : ℕ) (l : List ℕ) → length (items c l) ≡ length l
unfolding items
length-items c [] = refl
length-items c (k ∷ l) = ap suc (length-items c l)

-- an object in range is seen
weighed-upd : (H : Heap) (g : ℕ → ℕ) (seen : ℕ → Bool) (o : ℕ) → o ≢ 0 → o ≤ H.n → seen o ≡ false
    → weighed H g seen ≡ weighed H g (upd seen o true) + g o
unfolding weighed
weighed-upd H g seen o p q e =
    sum_bump H.n o (g o) (λ x. cond (upd seen o true x) 0 (g x)) (λ x. cond (seen x) 0 (g x)) (omega (arith, p)) q there elsewhere
  where
    there : cond (seen o) 0 (g o) ≡ cond (upd seen o true o) 0 (g o) + g o
    there = rw (e, upd_same seen o true) (sym (zero-add (g o)))

    elsewhere : (x : ℕ) → x ≢ o → cond (seen x) 0 (g x) ≡ cond (upd seen o true x) 0 (g x)
    elsewhere x n = rw (upd_other seen o x true n) refl

-- an older cluster that is not handled: its members had its number before, and none of them is seen
pub older-same : (H : Heap) (limit : ℕ) → Ready H → (w : Work) → Inv H limit w → (o x : ℕ)
    → w.seen o ≡ false → w.cl o ≢ 0 → w.cl x ≡ w.cl o → (H.cluster x ≢ 0) × (H.cluster x ≡ H.cluster o)
older-same H limit R w I o x e p q = (was, sym (I.kept x was) ∙ q ∙ here)
  where
    here : w.cl o ≡ H.cluster o
    here = I.unseen o e

    head_of : H.cluster (w.cl x) ≢ 0
    head_of j = p (here ∙ sym (R.heads o (λ k. p (here ∙ k))) ∙ ap H.cluster (sym (q ∙ here)) ∙ j)

    was : H.cluster x ≢ 0
    was j = head_of (I.fresh x j (λ k. p (sym q ∙ k)))

older-unseen : (H : Heap) (limit : ℕ) → Ready H → (w : Work) → Inv H limit w → (o x : ℕ)
    → w.seen o ≡ false → w.cl o ≢ 0 → w.cl x ≡ w.cl o → w.seen x ≡ false
older-unseen H limit R w I o x e p q = let t = older-same H limit R w I o x e p q in I.whole x o t.0 t.1 ∙ e

-- the slots that a visit puts in front, sinks not counted
unfoldable pub slots_of : Heap → (ℕ → ℕ) → ℕ → Visit → ℕ
slots_of H cl o skip = 0
slots_of H cl o older = length (gather H.n (λ x. eqb (cl x) (cl o) && H.out x) H.kids)
slots_of H cl o alone = length (H.kids o)
slots_of H cl o join = length (H.kids o)
slots_of H cl o head = length (H.kids o)

module _ (H : Heap) (limit : ℕ) (R : Ready H) (seen : ℕ → Bool) (cl : ℕ → ℕ) (i : Item) (rest : List Item)
    (I : Inv H limit (record { todo = i ∷ rest; seen = seen; cl = cl })) where
  -- an older cluster is seen: f is of its members alone, and at most what they weighed
  weighed-older : (g f : ℕ → ℕ) → seen i.obj ≡ false → cl i.obj ≢ 0 → ((x : ℕ) → f x ≤ cond (eqb (cl x) (cl i.obj)) (g x) 0)
      → weighed H g (λ x. eqb (cl x) (cl i.obj) || seen x) + sum H.n f ≤ weighed H g seen
  unfolding weighed
  weighed-older g f e p h =
      let s = sum-add H.n (λ x. cond (eqb (cl x) (cl i.obj) || seen x) 0 (g x)) f in
      let t = sum_mono H.n (λ x. cond (eqb (cl x) (cl i.obj) || seen x) 0 (g x) + f x) (λ x. cond (seen x) 0 (g x))
      (λ x j k. each x (eqb (cl x) (cl i.obj)) (seen x) (λ u. older-unseen H limit R _ I i.obj x e p (eqb-true (cl x) (cl i.obj) u)) refl (h x)) in
      omega arith
    where
      each : (x : ℕ) (a b : Bool) → (a ≡ true → seen x ≡ false) → seen x ≡ b → f x ≤ cond a (g x) 0 → cond (a || b) 0 (g x) + f x ≤ cond b 0 (g x)
      each x true true u v l = absurd (true≢false (sym v ∙ u refl))
      each x true false u v l = omega arith
      each x false b u v l = omega arith

  slots-one : i.obj ≢ 0 → seen i.obj ≡ false → unseen_slots H (upd seen i.obj true) + length (H.kids i.obj) ≤ unseen_slots H seen
  unfolding unseen_slots weighed
  slots-one p e = let a = weighed-upd H (λ x. length (H.kids x)) seen i.obj p (in-range H limit R seen cl i rest I) e in omega arith

  slots-older : seen i.obj ≡ false → cl i.obj ≢ 0
      → unseen_slots H (seen_by seen cl i.obj older) + slots_of H cl i.obj older ≤ unseen_slots H seen
  unfolding unseen_slots weighed seen_by slots_of
  slots-older e p =
      let a = length-gather H.n (λ x. eqb (cl x) (cl i.obj) && H.out x) H.kids in
      let b = weighed-older (λ x. length (H.kids x)) (λ x. cond (eqb (cl x) (cl i.obj) && H.out x) (length (H.kids x)) 0) e p
      (λ x. each (eqb (cl x) (cl i.obj)) (H.out x) (length (H.kids x))) in
      omega arith
    where
      each : (a b : Bool) (k : ℕ) → cond (a && b) k 0 ≤ cond a k 0
      each true true k = omega arith
      each true false k = omega arith
      each false b k = omega arith

  -- what a visit puts in front was counted among the slots of objects that were not seen
  pub slots-act : (k : Visit) → Facts H limit seen cl i.obj i.passed k
      → unseen_slots H (seen_by seen cl i.obj k) + slots_of H cl i.obj k ≤ unseen_slots H seen
  unfolding seen_by slots_of
  slots-act skip f = omega arith
  slots-act older f = slots-older f.1 f.2
  slots-act alone f = slots-one f.0 f.1
  slots-act join f = slots-one f.0.nonzero f.0.unseen
  slots-act head f = slots-one f.nonzero f.unseen

  -- one object is seen, and its pointers are visited
  needed-one : (c : ℕ) (cl' : ℕ → ℕ) → i.obj ≢ 0 → seen i.obj ≡ false
      → needed H (record { todo = items c (H.kids i.obj) ++ rest; seen = upd seen i.obj true; cl = cl' })
      < needed H (record { todo = i ∷ rest; seen = seen; cl = cl })
  unfolding needed weighed
  needed-one c cl' p e =
      let a = weighed-upd H (λ x. length (H.kids x) + length (sinks_at H x)) seen i.obj p (in-range H limit R seen cl i rest I) e in
      let b = length-append (items c (H.kids i.obj)) rest in
      let d = length-items c (H.kids i.obj) in
      omega arith

  -- an older cluster is seen, the pointers of its out members and its sinks are visited: these are counted at its head
  needed-older : seen i.obj ≡ false → cl i.obj ≢ 0
      → needed H (act H seen cl i.obj i.passed rest older) < needed H (record { todo = i ∷ rest; seen = seen; cl = cl })
  unfolding needed weighed act pushed seen_by cl_by visits_of_cluster
  needed-older e p =
      let a = length-append (items 0 (visits_of_cluster H cl c)) rest in
      let b = length-items 0 (visits_of_cluster H cl c) in
      let d = length-append (gather H.n (λ x. eqb (cl x) c && H.out x) H.kids) (sinks_at H c) in
      let g = length-gather H.n (λ x. eqb (cl x) c && H.out x) H.kids in
      let k = sum-at H.n c sinks (omega (arith, p)) (I.range c (λ j. p (sym own ∙ j))) (λ x q. rw (ne_eqb x c q) refl) in
      let m : sinks c ≡ length (sinks_at H c) = rw (eq-eqb c c refl) refl in
      let s = sum-add H.n slots sinks in
      let t = weighed-older (λ x. length (H.kids x) + length (sinks_at H x)) (λ x. slots x + sinks x) e p
      (λ x. each (eqb (cl x) c) (H.out x) (eqb x c) (length (H.kids x)) (length (sinks_at H x)) (λ q. eq-eqb (cl x) c (ap cl (eqb-true x c q) ∙ own))) in
      omega arith
    where
      c : ℕ
      c = cl i.obj

      own : cl c ≡ c
      own = I.heads i.obj p

      slots : ℕ → ℕ
      slots x = cond (eqb (cl x) c && H.out x) (length (H.kids x)) 0

      sinks : ℕ → ℕ
      sinks x = cond (eqb x c) (length (sinks_at H x)) 0

      each : (a b d : Bool) (k m : ℕ) → (d ≡ true → a ≡ true) → cond (a && b) k 0 + cond d m 0 ≤ cond a (k + m) 0
      each true true true k m h = omega arith
      each true true false k m h = omega arith
      each true false true k m h = omega arith
      each true false false k m h = omega arith
      each false b true k m h = absurd (true≢false (sym (h refl)))
      each false b false k m h = omega arith

  pub needed-act : (k : Visit) → Facts H limit seen cl i.obj i.passed k
      → needed H (act H seen cl i.obj i.passed rest k) < needed H (record { todo = i ∷ rest; seen = seen; cl = cl })
  unfolding act pushed seen_by cl_by needed
  needed-act skip f = omega arith
  needed-act older f = needed-older f.1 f.2
  needed-act alone f = needed-one 0 cl f.0 f.1
  needed-act join f = needed-one i.passed (upd cl i.obj i.passed) f.0.nonzero f.0.unseen
  needed-act head f = needed-one i.obj (upd cl i.obj i.obj) f.nonzero f.unseen

-- ---- the end

-- a walk with no visit to make stays as it is
pub step-still : (H : Heap) (limit : ℕ) (w : Work) → w.todo ≡ [] → step H limit w ≡ w
unfolding step visit
step-still H limit w e = go w.todo e
  where
    go : (l : List Item) → l ≡ [] → visit H limit w.seen w.cl l ≡ record { todo = l; seen = w.seen; cl = w.cl }
    go [] e = refl
    go (i ∷ l) e = absurd (cons≢nil e)

module _ (H : Heap) (limit : ℕ) (R : Ready H) (p : 1 ≤ limit) where
  -- a step with a visit to make lowers the steps needed
  pub step_falls : (w : Work) → Inv H limit w → (w.todo ≡ []) ⊎ (needed H (step H limit w) < needed H w)
  unfolding step visit
  step_falls w I = go w.todo I
    where
      go : (l : List Item) → Inv H limit (record { todo = l; seen = w.seen; cl = w.cl })
          → (l ≡ []) ⊎ (needed H (visit H limit w.seen w.cl l) < needed H (record { todo = l; seen = w.seen; cl = w.cl }))
      go [] K = inl refl
      go (i ∷ rest) K =
          inr (needed-act H limit R w.seen w.cl i rest K _ (facts H limit w.seen w.cl i.obj i.passed))

  pub run-inv : (k : ℕ) (w : Work) → Inv H limit w → Inv H limit (run (step H limit) k w)
  run-inv k w I = Runs.run-keeps (step H limit) (Inv H limit) (step-inv H limit R p) k w I

  pub finish-inv : (w : Work) → Inv H limit w → Inv H limit (finish H limit w)
  unfolding finish Run.finish
  finish-inv w I = run-inv (needed H w) w I

  -- what each visit keeps holds at the end
  pub finish-keeps : (Q : Work → Type 0)
      → ((seen : ℕ → Bool) (cl : ℕ → ℕ) (i : Item) (rest : List Item) → Inv H limit (record { todo = i ∷ rest; seen = seen; cl = cl })
      → Q (record { todo = i ∷ rest; seen = seen; cl = cl }) → (v : Visit) → Facts H limit seen cl i.obj i.passed v
      → Q (act H seen cl i.obj i.passed rest v)) → (w : Work) → Inv H limit w → Q w → Q (finish H limit w)
  unfolding finish Run.finish step visit
  finish-keeps Q h w I q =
      (Runs.run-keeps (step H limit) (λ v. Inv H limit v × Q v) (λ v j. (step-inv H limit R p v j.0, go v v.todo j.0 j.1)) (needed H w) w (I, q)).1
    where
      go : (v : Work) (l : List Item) → Inv H limit (record { todo = l; seen = v.seen; cl = v.cl })
          → Q (record { todo = l; seen = v.seen; cl = v.cl }) → Q (visit H limit v.seen v.cl l)
      go v [] J q = q
      go v (i ∷ rest) J q = h v.seen v.cl i rest J q _ (facts H limit v.seen v.cl i.obj i.passed)

  pub finish-ends : (w : Work) → Inv H limit w → (finish H limit w).todo ≡ []
  unfolding finish
  finish-ends w I =
      Runs.finish-ends (step H limit) (needed H) (Inv H limit) (λ v. v.todo ≡ []) (step-inv H limit R p) (step-still H limit) step_falls w I

  -- what a loop that makes the steps keeps
  pub finish-step : (w : Work) → Inv H limit w → finish H limit (step H limit w) ≡ finish H limit w
  unfolding finish
  finish-step w I =
      Runs.finish-step (step H limit) (needed H) (Inv H limit) (λ v. v.todo ≡ []) (step-inv H limit R p) (step-still H limit) step_falls w I

  pub finish-done : (w : Work) → w.todo ≡ [] → finish H limit w ≡ w
  unfolding finish
  finish-done w e =
      Runs.finish-done (step H limit) (needed H) (Inv H limit) (λ v. v.todo ≡ []) (step-inv H limit R p) (step-still H limit) step_falls w e

  -- ---- room

  -- the steps needed never grow
  pub step-needed : (w : Work) → Inv H limit w → needed H (step H limit w) ≤ needed H w
  step-needed w I = go (step_falls w I)
    where
      go : (w.todo ≡ []) ⊎ (needed H (step H limit w) < needed H w) → needed H (step H limit w) ≤ needed H w
      go (inl e) = rw (step-still H limit w e) (le_refl (needed H w))
      go (inr l) = le_of_lt l

-- where no object has more than 8 slots
pub unseen-le : (H : Heap) (seen : ℕ → Bool) → ((x : ℕ) → Obj H.n x → length (H.kids x) ≤ 8) → unseen_slots H seen ≤ 8 * H.n
unfolding unseen_slots
unseen-le H seen h = sum-most H.n 8 (λ x. cond (seen x) 0 (length (H.kids x))) (λ x b. part (seen x) (length (H.kids x)) (h x b))
  where
    part : (b : Bool) (k : ℕ) → k ≤ 8 → cond b 0 k ≤ 8
    part true k l = omega arith
    part false k l = l

-- the walk from starts in range ends
pub walk_ends : (H : Heap) (limit : ℕ) (from : List ℕ) → Ready H → 1 ≤ limit → ((k : ℕ) → Memᴰ k from → k ≤ H.n)
    → (finish H limit (begin H from)).todo ≡ []
walk_ends H limit from R p h = finish-ends H limit R p (begin H from) (begin-inv H limit from R h)

-- ---- one visit after the other

pub items-append : (c : ℕ) (a b : List ℕ) → items c (a ++ b) ≡ items c a ++ items c b
unfolding items
items-append c [] b = refl
items-append c (x ∷ a) b = ap (λ l. record { obj = x; passed = c } ∷ l) (items-append c a b)

-- the invariant asks of the visits to make only that each is Ok
pub inv-front : (H : Heap) (limit : ℕ) (a b : List Item) (seen : ℕ → Bool) (cl : ℕ → ℕ)
    → Inv H limit (record { todo = a ++ b; seen = seen; cl = cl }) → Inv H limit (record { todo = a; seen = seen; cl = cl })
inv-front H limit a b seen cl I = record {
  conn = I.conn;
  heads = I.heads;
  visits = all-front a b I.visits;
  unseen = I.unseen;
  whole = I.whole;
  kept = I.kept;
  fresh = I.fresh;
  barred = I.barred;
  zero-none = I.zero-none;
  range = I.range;
  small = I.small;
}

-- the walk whose visits are those of w, then those of b
abbrev pub extended : Work → List Item → Work
extended w b = record { todo = w.todo ++ b; seen = w.seen; cl = w.cl }

-- the visits of b, to be made when those of w with all that they lead to are done
unfoldable pub after : Heap → ℕ → Work → List Item → Work
after H limit w b = record { todo = b; seen = (finish H limit w).seen; cl = (finish H limit w).cl }

module _ (H : Heap) (limit : ℕ) (R : Ready H) (p : 1 ≤ limit) (b : List Item) where
  -- the first visit of w, the others of w and those of b after it
  step-extended : (i : Item) (rest : List Item) (seen : ℕ → Bool) (cl : ℕ → ℕ)
      → step H limit (record { todo = (i ∷ rest) ++ b; seen = seen; cl = cl })
      ≡ extended (step H limit (record { todo = i ∷ rest; seen = seen; cl = cl })) b
  unfolding step visit act
  step-extended i rest seen cl =
      ap (λ l. record { todo = l; seen = seen_by seen cl i.obj k; cl = cl_by cl i.obj i.passed k })
      (sym (append_assoc (pushed H cl i.obj i.passed k) rest b))
    where
      k : Visit
      k = kind H limit seen cl i.obj i.passed

  -- when no visit of w is left
  append-none : (seen : ℕ → Bool) (cl : ℕ → ℕ) → record { todo = b; seen = seen; cl = cl } ≡ after H limit (record { todo = []; seen = seen; cl = cl }) b
  unfolding after
  append-none seen cl =
      ap (λ (v : Work). record { todo = b; seen = v.seen; cl = v.cl }) (sym (finish-done H limit R p (record { todo = []; seen = seen; cl = cl }) refl))

  after-step : (w : Work) → Inv H limit w → after H limit (step H limit w) b ≡ after H limit w b
  unfolding after
  after-step w I = ap (λ (v : Work). record { todo = b; seen = v.seen; cl = v.cl }) (finish-step H limit R p w I)

  abbrev Appended : Work → Type 0
  Appended w = (finish H limit (extended w b) ≡ finish H limit (after H limit w b)) × Inv H limit (after H limit w b)

  append-step : (i : Item) (rest : List Item) (seen : ℕ → Bool) (cl : ℕ → ℕ)
      → Inv H limit (record { todo = (i ∷ rest) ++ b; seen = seen; cl = cl })
      → Appended (step H limit (record { todo = i ∷ rest; seen = seen; cl = cl })) → Appended (record { todo = i ∷ rest; seen = seen; cl = cl })
  append-step i rest seen cl I r =
      let e = after-step (record { todo = i ∷ rest; seen = seen; cl = cl }) (inv-front H limit (i ∷ rest) b seen cl I) in (
        sym (finish-step H limit R p (record { todo = (i ∷ rest) ++ b; seen = seen; cl = cl }) I) ∙ ap (finish H limit) (step-extended i rest seen cl)
            ∙ r.0 ∙ ap (finish H limit) e,
        subst (λ (v : Work). Inv H limit v) e r.1,
      )

  append-by : (f : ℕ) (seen : ℕ → Bool) (cl : ℕ → ℕ) (l : List Item)
      → Inv H limit (record { todo = l ++ b; seen = seen; cl = cl }) → needed H (record { todo = l; seen = seen; cl = cl }) ≤ f
      → Appended (record { todo = l; seen = seen; cl = cl })
  append-by zero seen cl [] I le =
      (ap (finish H limit) (append-none seen cl), subst (λ (v : Work). Inv H limit v) (append-none seen cl) I)
  append-by (suc f) seen cl [] I le =
      (ap (finish H limit) (append-none seen cl), subst (λ (v : Work). Inv H limit v) (append-none seen cl) I)
  append-by zero seen cl (i ∷ rest) I le = absurd (unfold needed in omega arith)
  append-by (suc f) seen cl (i ∷ rest) I le =
      let w = step H limit (record { todo = i ∷ rest; seen = seen; cl = cl }) in
      append-step i rest seen cl I
      (append-by f w.seen w.cl w.todo
      (subst (λ (v : Work). Inv H limit v) (step-extended i rest seen cl) (step-inv H limit R p (record { todo = (i ∷ rest) ++ b; seen = seen; cl = cl }) I))
      (fewer (step_falls H limit R p (record { todo = i ∷ rest; seen = seen; cl = cl }) (inv-front H limit (i ∷ rest) b seen cl I)) le))
    where
      fewer : {k m : ℕ} → ((i ∷ rest) ≡ []) ⊎ (k < m) → m ≤ suc f → k ≤ f
      fewer (inl e) l = absurd (cons≢nil e)
      fewer (inr s) l = omega arith

  -- the visits of w are made first, then those of b
  pub finish-append : (w : Work) → Inv H limit (extended w b) → finish H limit (extended w b) ≡ finish H limit (after H limit w b)
  finish-append w I = (append-by (needed H w) w.seen w.cl w.todo I (le_refl (needed H w))).0

  pub after-inv : (w : Work) → Inv H limit (extended w b) → Inv H limit (after H limit w b)
  after-inv w I = (append-by (needed H w) w.seen w.cl w.todo I (le_refl (needed H w))).1

-- the starts a before the starts b
pub begin-append : (H : Heap) (limit : ℕ) → Ready H → 1 ≤ limit → (a b : List ℕ) → ((k : ℕ) → Memᴰ k (a ++ b) → k ≤ H.n)
    → (finish H limit (begin H (a ++ b)) ≡ finish H limit (after H limit (begin H a) (items 0 b))) × Inv H limit (after H limit (begin H a) (items 0 b))
unfolding begin
begin-append H limit R p a b h =
    (ap (finish H limit) same ∙ finish-append H limit R p (items 0 b) (begin H a) both, after-inv H limit R p (items 0 b) (begin H a) both)
  where
    same : begin H (a ++ b) ≡ extended (begin H a) (items 0 b)
    same = ap (λ (l : List Item). record { todo = l; seen = λ x. false; cl = H.cluster }) (items-append 0 a b)

    both : Inv H limit (extended (begin H a) (items 0 b))
    both = subst (λ (w : Work). Inv H limit w) same (begin-inv H limit (a ++ b) R h)
