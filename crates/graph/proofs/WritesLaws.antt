-- Writes and sinks leave a good heap, and a write loss of at most n.
-- Assumes nothing.
use Prim.Native.Nat.{ℕ, ◌+◌, ◌≤◌}
use mathlib.Core.Path.{◌≡◌, refl, sym, ap, ◌∙◌, fun_ext}
use mathlib.Core.Bool.{Bool, true, false, not, cond, ◌&&◌}
use mathlib.Core.List.{List, Memᴰ}
use mathlib.Core.Logic.{◌≢◌, ◌⊎◌, inl, inr}
use native.Mathlib.Decide.{ℕ_discrete}
use native.Mathlib.Omega.{arith}
use lib.Dec.{eqb}
use lib.ListN.{get_or, set}
use borrow.Author.Tests.{eqb-false, eq-eqb, ne_eqb, not-true, not-false}
use Rattle.graph.specs.Numbers.{upd, bit, count, has}
use Rattle.graph.specs.Heap.{Heap}
use Rattle.graph.specs.Clusters.{keep, size, out_bit, others}
use Rattle.graph.specs.Writes.{dissolves, stored, store_by, loss_by, store, loss_of, placed, declare}
use Rattle.graph.specs.Invariant.{Connected}
use Rattle.graph.proofs.NumberLaws.{and_split, upd_same, upd_other, bit_le, sum-add, sum_mono, mem-set, mem-of-set, has_in}
use Rattle.graph.proofs.Paths.{connected-keep, connected-kids, keep_out, keep-zero}
use Rattle.graph.proofs.SinkLaws.{placed-from, placed-keeps, placed-there}
use Rattle.graph.proofs.OutLaws.{out_bit-same, out_bit-keep, out_bit-none}
use Rattle.graph.proofs.State.{Good, clustered, keep-fewer}

others_same : (c : ℕ) → others c c ≡ false
unfolding others
others_same c = rw (eq-eqb c c refl) refl

-- the members of c, and those of the other clusters
pub dissolve-count : (n : ℕ) (cl : ℕ → ℕ) (c : ℕ) → c ≢ 0
    → count n (λ x. not (eqb (keep (others c) cl x) 0)) + size n cl c ≤ count n (λ x. not (eqb (cl x) 0))
unfolding count size
dissolve-count n cl c p =
    let a = sum-add n (λ x. bit (not (eqb (keep (others c) cl x) 0))) (λ x. bit (eqb (cl x) c)) in
    let b = sum_mono n (λ x. bit (not (eqb (keep (others c) cl x) 0)) + bit (eqb (cl x) c)) (λ x. bit (not (eqb (cl x) 0)))
    (λ x q r. each x (ℕ_discrete (cl x) c) (ℕ_discrete (cl x) 0)) in
    omega arith
  where
    each : (x : ℕ) → Dec (cl x ≡ c) → Dec (cl x ≡ 0)
        → bit (not (eqb (keep (others c) cl x) 0)) + bit (eqb (cl x) c) ≤ bit (not (eqb (cl x) 0))
    each x (yes i) d =
        rw (keep_out (others c) cl c x i (others_same c), i, eq-eqb c c refl, ne_eqb c 0 p) (omega arith)
    each x (no i) (yes j) =
        rw (keep-zero (others c) cl x j, ne_eqb (cl x) c i, j) (omega arith)
    each x (no i) (no j) =
        rw (ne_eqb (cl x) c i, ne_eqb (cl x) 0 j) (omega (arith, bit_le (not (eqb (keep (others c) cl x) 0))))

-- a store of a pointer in range keeps pointers in range
stored-closed : (H : Heap) (o k t : ℕ) → ((x y : ℕ) → Memᴰ y (H.kids x) → y ≤ H.n) → t ≤ H.n
    → (x y : ℕ) → Memᴰ y (stored H o k t x) → y ≤ H.n
unfolding stored
stored-closed H o k t h p x y m = go (ℕ_discrete x o)
  where
    new : (y ≡ t) ⊎ Memᴰ y (H.kids o) → y ≤ H.n
    new (inl e) = rw e p
    new (inr n) = h o y n

    go : Dec (x ≡ o) → y ≤ H.n
    go (yes i) = new (mem-of-set (H.kids o) k t y (rw (i, upd_same H.kids o (set (H.kids o) k t)) at m))
    go (no i) = h x y (rw (upd_other H.kids o x (set (H.kids o) k t) i) at m)

-- the words of another object
stored_other : (H : Heap) (o k t x : ℕ) → x ≢ o → H.kids x ≡ stored H o k t x
unfolding stored
stored_other H o k t x p = sym (upd_other H.kids o x (set (H.kids o) k t) p)

-- so its out bit is exact after the store if it was before
other-out : (H : Heap) (o k t x : ℕ) (cl : ℕ → ℕ) → x ≢ o → out_bit H.kids H.sink cl x ≡ out_bit (stored H o k t) H.sink cl x
other-out H o k t x cl p = out_bit-same H.kids (stored H o k t) H.sink cl cl x (stored_other H o k t x p) refl (λ y. refl)

-- a write that dissolves is one to an object in a cluster
pub points-clustered : (H : Heap) (o k t : ℕ) → dissolves H o k t ≡ true → H.cluster o ≢ 0
unfolding dissolves
points-clustered H o k t e = eqb-false (H.cluster o) 0 (not-true _ (and_split _ _ e).0)

module _ (H : Heap) (loss o k t : ℕ) (G : Good H loss) (p : t ≤ H.n) where
  -- the write that dissolves, of an object in a cluster
  pub dissolving : H.cluster o ≢ 0 → Good (store_by true H o k t) (loss + loss_by true H o)
  unfolding store_by loss_by clustered
  dissolving q = record {
    conn = conn';
    zero-none = keep-zero (others c) H.cluster 0 G.zero-none;
    closed = stored-closed H o k t G.closed p;
    range = λ x r. G.range x (λ j. r (keep-zero (others c) H.cluster x j));
    sinks = λ x e. keep-zero (others c) H.cluster x (G.sinks x e);
    exact = λ x. exact' x (ℕ_discrete x o);
    listed_in = G.listed_in;
    listed-all = G.listed-all;
    sink-none = G.sink-none;
    losses = let a = dissolve-count H.n H.cluster c q in let b = G.losses in omega arith;
  }
    where
      c : ℕ
      c = H.cluster o

      gone : keep (others c) H.cluster o ≡ 0
      gone = keep_out (others c) H.cluster c o refl (others_same c)

      conn' : Connected (stored H o k t) (keep (others c) H.cluster)
      conn' = unfold stored in
          connected-kids H.kids (keep (others c) H.cluster) o (set (H.kids o) k t) (connected-keep H.kids (others c) H.cluster G.conn)
          (λ r. absurd (r gone))

      exact' : (x : ℕ) → Dec (x ≡ o)
          → (others c (H.cluster x) && H.out x) ≡ out_bit (stored H o k t) H.sink (keep (others c) H.cluster) x
      exact' x (yes i) = rw (i, others_same c) (sym (out_bit-none (stored H o k t) H.sink (keep (others c) H.cluster) o gone))
      exact' x (no i) =
          rw (G.exact x) (sym (out_bit-keep H.kids H.sink (others c) H.cluster x) ∙ other-out H o k t x (keep (others c) H.cluster) i)

  -- the write that does not, if its cluster is still connected
  pub staying : Connected (stored H o k t) H.cluster → Good (store_by false H o k t) (loss + loss_by false H o)
  unfolding store_by loss_by clustered
  staying q = record {
    conn = q;
    zero-none = G.zero-none;
    closed = stored-closed H o k t G.closed p;
    range = G.range;
    sinks = G.sinks;
    exact = λ x. exact' x (ℕ_discrete x o);
    listed_in = G.listed_in;
    listed-all = G.listed-all;
    sink-none = G.sink-none;
    losses = let b = G.losses in omega arith;
  }
    where
      exact' : (x : ℕ) → Dec (x ≡ o)
          → upd H.out o (out_bit (stored H o k t) H.sink H.cluster o) x ≡ out_bit (stored H o k t) H.sink H.cluster x
      exact' x (yes i) = rw i (upd_same H.out o _)
      exact' x (no i) = upd_other H.out o x _ i ∙ G.exact x ∙ other-out H o k t x H.cluster i

  -- the old pointer was not into o's cluster, or o still has it: the cluster is still connected
  pub still-connected : dissolves H o k t ≡ false → Connected (stored H o k t) H.cluster
  unfolding dissolves stored
  still-connected e = connected-kids H.kids H.cluster o l G.conn (λ nz z q m. kept nz z q m (ℕ_discrete z u))
    where
      u : ℕ
      u = get_or (H.kids o) k 0

      l : List ℕ
      l = set (H.kids o) k t

      held : H.cluster o ≢ 0 → H.cluster u ≡ H.cluster o → Memᴰ u l
      held nz q =
          has_in u l (not-false (has u l)
          (rw (ne_eqb (H.cluster o) 0 nz, ne_eqb u 0 (λ z. nz (sym q ∙ ap H.cluster z ∙ G.zero-none)), eq-eqb (H.cluster u) (H.cluster o) q) at e))

      kept : H.cluster o ≢ 0 → (z : ℕ) → H.cluster z ≡ H.cluster o → Memᴰ z (H.kids o) → Dec (z ≡ u) → Memᴰ z l
      kept nz z q m (yes i) = rw i (held nz (ap H.cluster (sym i) ∙ q))
      kept nz z q m (no i) = mem-set (H.kids o) k t z m (λ j. i (sym j))

  pub store-good : Good (store H o k t) (loss + loss_of H o k t)
  unfolding store loss_of
  store-good = go (dissolves H o k t) refl
    where
      go : (b : Bool) → dissolves H o k t ≡ b → Good (store_by b H o k t) (loss + loss_by b H o)
      go true e = dissolving (points-clustered H o k t e)
      go false e = staying (still-connected e)

-- write loss and the members that a write dissolves are together at most n
pub write-fits : (H : Heap) (loss o k t : ℕ) → Good H loss → dissolves H o k t ≡ true → loss + size H.n H.cluster (H.cluster o) ≤ H.n
unfolding clustered
write-fits H loss o k t G e =
    let a = dissolve-count H.n H.cluster (H.cluster o) (points-clustered H o k t e) in
    let b = G.losses in
    omega arith

-- ---- sinks

-- with an empty place, or of a sink
pub declare-good : (H : Heap) (loss o : ℕ) → Good H loss → o ≢ 0 → o ≤ H.n → (H.sink o ≡ false → Memᴰ 0 H.listed) → Good (declare H o) loss
unfolding declare clustered
declare-good H loss o G nz le room = record {
  conn = connected-keep H.kids (others c) H.cluster G.conn;
  zero-none = keep-zero (others c) H.cluster 0 G.zero-none;
  closed = G.closed;
  range = λ x r. G.range x (λ j. r (keep-zero (others c) H.cluster x j));
  sinks = λ x e. sinks' x e (ℕ_discrete x o);
  exact = λ x. refl;
  listed_in = λ y m z. in' y z (H.sink o) refl m;
  listed-all = λ y e. all' y e (ℕ_discrete y o) (H.sink o) refl;
  sink-none = λ e. G.sink-none (sym (upd_other H.sink o 0 true (λ z. nz (sym z))) ∙ e);
  losses =
      let a = keep-fewer H.n (others c) H.cluster in
      let b = G.losses in
      omega arith;
}
  where
    c : ℕ
    c = H.cluster o

    sinks' : (x : ℕ) → upd H.sink o true x ≡ true → Dec (x ≡ o) → keep (others c) H.cluster x ≡ 0
    sinks' x e (yes i) = keep_out (others c) H.cluster c x (ap H.cluster i) (others_same c)
    sinks' x e (no i) = keep-zero (others c) H.cluster x (G.sinks x (sym (upd_other H.sink o x true i) ∙ e))

    was : (y : ℕ) → y ≢ 0 → Memᴰ y H.listed → Dec (y ≡ o) → (y ≤ H.n) × (upd H.sink o true y ≡ true)
    was y z m (yes e) = (rw e le, rw e (upd_same H.sink o true))
    was y z m (no e) = let t = G.listed_in y m z in (t.0, upd_other H.sink o y true e ∙ t.1)

    in' : (y : ℕ) → y ≢ 0 → (b : Bool) → H.sink o ≡ b → Memᴰ y (cond b H.listed (placed o H.listed))
        → (y ≤ H.n) × (upd H.sink o true y ≡ true)
    in' y z true f m = was y z m (ℕ_discrete y o)
    in' y z false f m = go (placed-from o H.listed y m)
      where
        go : (y ≡ o) ⊎ Memᴰ y H.listed → (y ≤ H.n) × (upd H.sink o true y ≡ true)
        go (inl e) = (rw e le, rw e (upd_same H.sink o true))
        go (inr a) = was y z a (ℕ_discrete y o)

    nonzero : (y : ℕ) → H.sink y ≡ true → y ≢ 0
    nonzero y e z = G.sink-none (ap H.sink (sym z) ∙ e)

    all' : (y : ℕ) → upd H.sink o true y ≡ true → Dec (y ≡ o) → (b : Bool) → H.sink o ≡ b → Memᴰ y (cond b H.listed (placed o H.listed))
    all' y e (yes i) true f = G.listed-all y (ap H.sink i ∙ f)
    all' y e (yes i) false f = rw i (placed-there o H.listed (room f))
    all' y e (no i) true f = G.listed-all y (sym (upd_other H.sink o y true i) ∙ e)
    all' y e (no i) false f =
        let s : H.sink y ≡ true = sym (upd_other H.sink o y true i) ∙ e in placed-keeps o H.listed y (G.listed-all y s) (nonzero y s)

-- to dissolve no cluster changes none
keep_all : (cl : ℕ → ℕ) (x : ℕ) → keep (others 0) cl x ≡ cl x
unfolding keep others
keep_all cl x = go (ℕ_discrete (cl x) 0)
  where
    go : Dec (cl x ≡ 0) → cond (not (eqb (cl x) 0)) (cl x) 0 ≡ cl x
    go (yes e) = rw e refl
    go (no e) = rw (ne_eqb (cl x) 0 e) refl

-- a second declaration changes nothing
pub declare-again : (H : Heap) (loss o : ℕ) → Good H loss → H.sink o ≡ true → declare H o ≡ H
unfolding declare
declare-again H loss o G e = λ i. record {
  n = H.n;
  kids = H.kids;
  sink = same-sink i;
  listed = same-listed i;
  written = H.written;
  cluster = same-cluster i;
  out = same_out i;
}
  where
    same-sink : upd H.sink o true ≡ H.sink
    same-sink = fun_ext (λ x. go x (ℕ_discrete x o))
      where
        go : (x : ℕ) → Dec (x ≡ o) → upd H.sink o true x ≡ H.sink x
        go x (yes i) = rw i (upd_same H.sink o true ∙ sym e)
        go x (no i) = upd_other H.sink o x true i

    same-listed : cond (H.sink o) H.listed (placed o H.listed) ≡ H.listed
    same-listed = rw e refl

    same-cluster : keep (others (H.cluster o)) H.cluster ≡ H.cluster
    same-cluster = rw (G.sinks o e) (fun_ext (keep_all H.cluster))

    same_out : out_bit H.kids (upd H.sink o true) (keep (others (H.cluster o)) H.cluster) ≡ H.out
    same_out = rw (same-sink, same-cluster) (fun_ext (λ x. sym (G.exact x)))
