-- The other calls that change the heap leave it good: create, allocate, collect.
-- Assumes nothing.
use Prim.Native.Nat.{ℕ, ◌+◌, ◌≤◌}
use mathlib.Core.Path.{◌≡◌, refl, sym, ap, ◌∙◌, subst, fun_ext}
use mathlib.Core.Bool.{Bool, true, false, not, cond, ◌&&◌, false≢true}
use mathlib.Core.List.Memᴰ
use mathlib.Core.List.{List, [], ◌∷◌, map, Memᴰ}
use mathlib.Core.Logic.{◌≢◌}
use native.Mathlib.Decide.{ℕ_discrete}
use native.Mathlib.Omega.{arith}
use lib.Dec.{eqb}
use Rattle.graph.specs.Numbers.{upd, count}
use Rattle.graph.specs.Heap.{Heap}
use Rattle.graph.specs.Clusters.{keep, out_bit}
use Rattle.graph.specs.Invariant.{Connected, Heads}
use Rattle.graph.proofs.NumberLaws.{and_split, upd_same, upd_other, count-le}
use Rattle.graph.proofs.Paths.{path-map, connected-keep, connected-kids, keep-zero, keep-in, keep-was}
use Rattle.graph.proofs.OutLaws.{out_bit-same, out_bit-words, out_bit-keep, out_bit-none}
use Rattle.graph.proofs.State.{Good, clustered, keep-fewer}

-- ---- a list with each member changed

map_of : (f : ℕ → ℕ) (l : List ℕ) (y : ℕ) → Memᴰ y (map f l) → (w : ℕ) × Memᴰ w l × (y ≡ f w)
map_of f [] y x' = elim x' [ ]
map_of f (x ∷ l) y (Memᴰ.head e) = (x, Memᴰ.head refl, e)
map_of f (x ∷ l) y (Memᴰ.tail m) = let t = map_of f l y m in (t.0, Memᴰ.tail t.1, t.2)

map-in : (f : ℕ → ℕ) (l : List ℕ) (w : ℕ) → Memᴰ w l → Memᴰ (f w) (map f l)
map-in f [] w x' = elim x' [ ]
map-in f (x ∷ l) w (Memᴰ.head e) = Memᴰ.head (ap f e)
map-in f (x ∷ l) w (Memᴰ.tail m) = Memᴰ.tail (map-in f l w m)

-- ---- create

unfoldable pub created : ℕ → Heap
created n = record { n = n; kids = λ x. []; sink = λ x. false; listed = []; written = λ x. false; cluster = λ x. 0; out = λ x. false }

-- a heap without clusters, as one just created or loaded is
pub unclustered-good : (H : Heap) → ((x : ℕ) → H.cluster x ≡ 0) → ((x : ℕ) → H.out x ≡ false)
    → ((x y : ℕ) → Memᴰ y (H.kids x) → y ≤ H.n) → ((y : ℕ) → Memᴰ y H.listed → y ≢ 0 → (y ≤ H.n) × (H.sink y ≡ true))
    → ((y : ℕ) → H.sink y ≡ true → Memᴰ y H.listed) → H.sink 0 ≢ true → Good H 0
unfolding clustered Connected
unclustered-good H none out closed listed_in listed-all sink-none = record {
  conn = λ y c e p. absurd (p (sym e ∙ none y));
  zero-none = none 0;
  closed = closed;
  range = λ x p. absurd (p (none x));
  sinks = λ x e. none x;
  exact = λ x. out x ∙ sym (out_bit-none H.kids H.sink H.cluster x (none x));
  listed_in = listed_in;
  listed-all = listed-all;
  sink-none = sink-none;
  losses = let a = count-le H.n (λ x. not (eqb (H.cluster x) 0)) in omega arith;
}

pub create-good : (n : ℕ) → Good (created n) 0
unfolding created
create-good n =
    unclustered-good (created n) (λ x. refl) (λ x. refl) (λ x y m. absurd (Memᴰ.not-nil m)) (λ y m nz. absurd (Memᴰ.not-nil m))
    (λ y e. absurd (false≢true e)) (λ e. false≢true e)

-- ---- allocate: an object of no cluster gets other pointers

unfoldable pub given : Heap → ℕ → List ℕ → Heap
given H o l = record { n = H.n; kids = upd H.kids o l; sink = H.sink; listed = H.listed; written = H.written; cluster = H.cluster; out = H.out }

pub given-good : (H : Heap) (loss o : ℕ) (l : List ℕ) → Good H loss → H.cluster o ≡ 0 → ((k : ℕ) → Memᴰ k l → k ≤ H.n) → Good (given H o l) loss
unfolding given clustered
given-good H loss o l G e h = record {
  conn = connected-kids H.kids H.cluster o l G.conn (λ n. absurd (n e));
  zero-none = G.zero-none;
  closed = λ x y m. closed' x y m (ℕ_discrete x o);
  range = G.range;
  sinks = G.sinks;
  exact = λ x. exact' x (ℕ_discrete x o);
  listed_in = G.listed_in;
  listed-all = G.listed-all;
  sink-none = G.sink-none;
  losses = G.losses;
}
  where
    closed' : (x y : ℕ) → Memᴰ y (upd H.kids o l x) → Dec (x ≡ o) → y ≤ H.n
    closed' x y m (yes i) = h y (rw (i, upd_same H.kids o l) at m)
    closed' x y m (no i) = G.closed x y (rw (upd_other H.kids o x l i) at m)

    exact' : (x : ℕ) → Dec (x ≡ o) → H.out x ≡ out_bit (upd H.kids o l) H.sink H.cluster x
    exact' x (yes i) =
        let j : H.cluster x ≡ 0 = ap H.cluster i ∙ e in
        G.exact x ∙ out_bit-none H.kids H.sink H.cluster x j ∙ sym (out_bit-none (upd H.kids o l) H.sink H.cluster x j)
    exact' x (no i) =
        G.exact x ∙ out_bit-same H.kids (upd H.kids o l) H.sink H.cluster H.cluster x (sym (upd_other H.kids o x l i)) refl (λ y. refl)

-- ---- collect: the clusters that fail the test are dissolved, and objects freed

unfoldable pub collected : Heap → (ℕ → Bool) → (ℕ → Bool) → Heap
collected H q dead = record {
  n = H.n;
  kids = λ x. cond (dead x) [] (H.kids x);
  sink = λ x. not (dead x) && H.sink x;
  listed = map (λ y. cond (dead y) 0 y) H.listed;
  written = λ x. not (dead x) && H.written x;
  cluster = λ x. cond (dead x) 0 (keep q H.cluster x);
  out = λ x. not (dead x) && (q (H.cluster x) && H.out x);
}

module _ (H : Heap) (q dead : ℕ → Bool) where
  abbrev left : Heap
  left = collected H q dead

  live-cluster : (x : ℕ) → dead x ≡ false → left.cluster x ≡ keep q H.cluster x
  unfolding collected
  live-cluster x e = rw e refl

  -- out bits are exact after it, if what is not freed points at nothing freed
  pub collect-exact : ((x : ℕ) → H.out x ≡ out_bit H.kids H.sink H.cluster x)
      → ((x y : ℕ) → dead x ≡ false → Memᴰ y (H.kids x) → y ≢ 0 → dead y ≡ false)
      → (x : ℕ) → left.out x ≡ out_bit left.kids left.sink left.cluster x
  unfolding collected
  collect-exact exact closed x = go (dead x) refl
    where
      kept : (q (H.cluster x) && H.out x) ≡ out_bit H.kids H.sink (keep q H.cluster) x
      kept = rw (exact x) (sym (out_bit-keep H.kids H.sink q H.cluster x))

      go : (b : Bool) → dead x ≡ b → left.out x ≡ out_bit left.kids left.sink left.cluster x
      go true e = rw e (sym (out_bit-none left.kids left.sink left.cluster x (rw e refl)))
      go false e =
          rw e kept
          ∙ out_bit-words H.kids left.kids H.sink left.sink (keep q H.cluster) left.cluster x (rw e refl) (sym (live-cluster x e))
          (λ y m nz. (rw (closed x y e m nz) refl, sym (live-cluster y (closed x y e m nz))))

  -- the head of a cluster that stays is a member of it, if it is not freed
  pub collect-heads : Heads H.cluster → ((x : ℕ) → H.cluster x ≢ 0 → q (H.cluster x) ≡ true → dead (H.cluster x) ≡ false) → Heads left.cluster
  unfolding collected
  collect-heads heads head y nz = go (dead y) refl
    where
      go : (b : Bool) → dead y ≡ b → left.cluster (left.cluster y) ≡ left.cluster y
      go true e = absurd (nz (rw e refl))
      go false e =
          let k : left.cluster y ≡ keep q H.cluster y = live-cluster y e in
          let w = keep-was q H.cluster (left.cluster y) y (sym k) nz in
          let c : H.cluster y ≢ 0 = λ z. nz (sym w.0 ∙ z) in
          let d : dead (left.cluster y) ≡ false = subst (λ z. dead z ≡ false) w.0 (head y c (subst (λ z. q z ≡ true) (sym w.0) w.1)) in
          live-cluster (left.cluster y) d
          ∙ keep-in q H.cluster (left.cluster y) (left.cluster y) (subst (λ z. H.cluster z ≡ z) w.0 (heads y c)) w.1

pub collect-good : (H : Heap) (loss : ℕ) (q dead : ℕ → Bool) → Good H loss → ((x : ℕ) → dead x ≡ true → keep q H.cluster x ≡ 0)
    → ((x y : ℕ) → dead x ≡ false → Memᴰ y (H.kids x) → y ≢ 0 → dead y ≡ false) → Good (collected H q dead) loss
unfolding collected clustered Connected
collect-good H loss q dead G d closed = record {
  conn = subst (λ (cl : ℕ → ℕ). Connected (λ x. cond (dead x) [] (H.kids x)) cl) (sym (fun_ext same))
      (λ y c e p. path-map (λ x i. i) (λ x z i j m. edge x z c p i m (dead x) refl) (connected-keep H.kids q H.cluster G.conn y c e p));
  zero-none = same 0 ∙ keep-zero q H.cluster 0 G.zero-none;
  closed = λ x y m. closed' x y (dead x) m;
  range = λ x r. G.range x (λ j. r (same x ∙ keep-zero q H.cluster x j));
  sinks = λ x e. same x ∙ keep-zero q H.cluster x (G.sinks x (and_split (not (dead x)) (H.sink x) e).1);
  exact = collect-exact H q dead G.exact closed;
  listed_in = λ y m nz. in' y nz (map_of (λ y. cond (dead y) 0 y) H.listed y m);
  listed-all = λ y e. all' y (dead y) refl e;
  sink-none = λ e. G.sink-none (and_split (not (dead 0)) (H.sink 0) e).1;
  losses =
      let a = keep-fewer H.n q H.cluster in
      let b = G.losses in
      subst (λ (cl : ℕ → ℕ). loss + count H.n (λ x. not (eqb (cl x) 0)) ≤ H.n) (sym (fun_ext same)) (omega arith);
}
  where
    same : (x : ℕ) → cond (dead x) 0 (keep q H.cluster x) ≡ keep q H.cluster x
    same x = go (dead x) refl
      where
        go : (b : Bool) → dead x ≡ b → cond b 0 (keep q H.cluster x) ≡ keep q H.cluster x
        go true e = sym (d x e)
        go false e = refl

    edge : (x z c : ℕ) → c ≢ 0 → keep q H.cluster x ≡ c → Memᴰ z (H.kids x) → (b : Bool) → dead x ≡ b → Memᴰ z (cond b [] (H.kids x))
    edge x z c p i m true e = absurd (p (sym i ∙ d x e))
    edge x z c p i m false e = m

    closed' : (x y : ℕ) (b : Bool) → Memᴰ y (cond b [] (H.kids x)) → y ≤ H.n
    closed' x y true m = absurd (Memᴰ.not-nil m)
    closed' x y false m = G.closed x y m

    in' : (y : ℕ) → y ≢ 0 → ((w : ℕ) × Memᴰ w H.listed × (y ≡ cond (dead w) 0 w)) → (y ≤ H.n) × ((not (dead y) && H.sink y) ≡ true)
    in' y nz t = go (dead t.0) refl t.2
      where
        go : (b : Bool) → dead t.0 ≡ b → y ≡ cond b 0 t.0 → (y ≤ H.n) × ((not (dead y) && H.sink y) ≡ true)
        go true f e = absurd (nz e)
        go false f e = let r = G.listed_in t.0 t.1 (λ z. nz (e ∙ z)) in (rw e r.0, rw (e, f) r.1)

    all' : (y : ℕ) (b : Bool) → dead y ≡ b → (not b && H.sink y) ≡ true → Memᴰ y (map (λ y. cond (dead y) 0 y) H.listed)
    all' y true f e = absurd (false≢true e)
    all' y false f e =
        subst (λ (z : ℕ). Memᴰ z (map (λ y. cond (dead y) 0 y) H.listed)) (rw f refl)
        (map-in (λ y. cond (dead y) 0 y) H.listed y (G.listed-all y e))
