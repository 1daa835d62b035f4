-- One older cluster is handled, member by member from the highest down.
-- Assumes nothing.
use Prim.Native.Nat.{ℕ, zero, suc, ◌+◌, ◌-◌, ◌*◌, ◌/◌, ◌%◌, ◌≤◌, ◌<◌}
use mathlib.Core.Path.{◌≡◌, refl, sym, ap, ap₂, ◌∙◌, fun_ext}
use mathlib.Core.Bool.{Bool, true, false, cond, ◌&&◌}
use mathlib.Core.List.{List, [], ◌++◌, append_assoc}
use mathlib.Core.Logic.{◌≢◌}
use native.Mathlib.Decide.{ℕ_discrete, dec_le, dec_lt}
use native.Mathlib.Omega.{arith}
use lib.Dec.{eqb, ltb}
use lib.ListN.{length, set, length-append}
use borrow.Author.Tests.{eqb-true, eq-eqb, lt-ltb, le-ltb}
use Rattle.layout.specs.Field.{field}
use Rattle.records.specs.Record.{is_out, cluster}
use Rattle.graph.specs.Numbers.{upd, gather}
use Rattle.graph.specs.Heap.{Heap}
use Rattle.graph.proofs.NumberLaws.{upd_same, upd_other}
use Rattle.rules.specs.Buffers.{rec_of}
use Rattle.rules.specs.View.{view}
use Rattle.rules.proofs.ListLaws.{rec_of-above}
use Rattle.rules.proofs.ViewLaws.{view-range}
use Rattle.table.specs.Clusters.{cluster_of}
use Rattle.links.specs.Links.{top_member}
use Rattle.links.proofs.MemberOrder.{top-le, top_in, top-none, gather-top}
use Rattle.analyse.specs.Memory.{area, Memory, mem_of, visit_words, in_front, with_state}
use Rattle.analyse.specs.Called.{out_kids, outs_below, Chained, handled}
use Rattle.table.specs.Room.{Sized}
use Rattle.analyse.proofs.MemoryLaws.{mem-path, put-state, words_append, front-none}
use Rattle.analyse.proofs.SlotLaws.{resized}

-- ---- one member

module _ (n : ℕ) (recs slots work : List ℕ) (z : Sized n recs slots work) (x : ℕ) (p : 1 ≤ x) (q : x ≤ n) (d top : ℕ)
    (b : Bool) (is : b ≡ is_out (rec_of n recs x)) where
  abbrev H : Heap
  H = view n recs slots

  out-is : H.out x ≡ b
  unfolding view
  out-is = sym is

  pub member-kids : b ≡ true → out_kids H x ≡ H.kids x
  unfolding out_kids
  member-kids t = rw (out-is, t) refl

  pub member-none : b ≡ false → out_kids H x ≡ []
  unfolding out_kids
  member-none t = rw (out-is, t) refl

  pub member-room : b ≡ true → length (out_kids H x) ≤ top → length (H.kids x) ≤ top
  member-room t h = let a = ap length (member-kids t) in omega arith

  module _ (work₁ : List ℕ) (put : work₁ ≡ set work (9 * n + x) (d + 4096)) where
    stated : (t : ℕ) → mem_of n work₁ t ≡ with_state (upd (area n (9 * n) work) x (d + 4096)) (mem_of n work t)
    stated t = ap (λ (l : List ℕ). mem_of n l t) put ∙ put-state n work z.work-long x (d + 4096) t p q

    abbrev pub Seen : List ℕ → ℕ → Type 0
    Seen work₂ r =
        (mem_of n work₂ r ≡ in_front (visit_words 0 (out_kids H x)) (with_state (upd (area n (9 * n) work) x (d + 4096)) (mem_of n work top)))
        × (r + length (out_kids H x) ≡ top)

    pub member-out : b ≡ true → (work₂ : List ℕ) (r : ℕ) → mem_of n work₂ r ≡ in_front (visit_words 0 (H.kids x)) (mem_of n work₁ top)
        → r + length (H.kids x) ≡ top → Seen work₂ r
    member-out t work₂ r m s = (
      m ∙ ap₂ (λ (l : List ℕ) (v : Memory). in_front (visit_words 0 l) v) (sym (member-kids t)) (stated top),
      (let a = ap length (member-kids t) in omega arith),
    )

    pub member-plain : b ≡ false → Seen work₁ top
    unfolding visit_words
    member-plain t = (
      stated top ∙ sym (front-none _) ∙ ap (λ (l : List ℕ). in_front (visit_words 0 l) (with_state (upd (area n (9 * n) work) x (d + 4096)) (mem_of n work top))) (sym (member-none t)),
      (let a = ap length (member-none t) in omega arith),
    )

-- ---- the members of a cluster are objects

pub none_first : (n : ℕ) (recs : List ℕ) → cluster_of n recs 0 ≡ 0
unfolding rec_of field
none_first n recs = refl

pub none_over : (n : ℕ) (recs : List ℕ) (x : ℕ) → n < x → cluster_of n recs x ≡ 0
unfolding field
none_over n recs x h = ap cluster (rec_of-above n recs x h)

pub in-range : (n : ℕ) (recs : List ℕ) (x d : ℕ) → d ≢ 0 → cluster_of n recs x ≡ d → (1 ≤ x) × (x ≤ n)
unfolding view
in-range n recs x d p e = view-range n recs [] x (λ z. p (sym e ∙ z))

-- ---- the members above k are handled

pub record Handling (n : ℕ) (recs slots : List ℕ) (d : ℕ) (work₀ : List ℕ) (top : ℕ) (work : List ℕ) (at k : ℕ) : Type 0 where
  pub todo : visit_words 0 (outs_below (view n recs slots) d k) ++ (mem_of n work at).todo
      ≡ visit_words 0 (outs_below (view n recs slots) d n) ++ (mem_of n work₀ top).todo
  pub link : area n (8 * n) work ≡ area n (8 * n) work₀
  pub state : (y : ℕ) → area n (9 * n) work y ≡ cond (eqb (cluster_of n recs y) d && ltb k y) (d + 4096) (area n (9 * n) work₀ y)
  pub long : length work ≡ length work₀
  pub spot : at + length (outs_below (view n recs slots) d n) ≡ top + length (outs_below (view n recs slots) d k)
  pub most : k ≤ n
  pub inside : at ≤ top

module _ (n : ℕ) (recs slots : List ℕ) (d : ℕ) (work₀ : List ℕ) (top : ℕ) (some : 1 ≤ d) where
  abbrev K : Heap
  K = view n recs slots

  abbrev below : ℕ → List ℕ
  below = outs_below K d

  member : (y : ℕ) → cluster_of n recs y ≡ d → (1 ≤ y) × (y ≤ n)
  member y e = in-range n recs y d (λ z. absurd (omega arith)) e

  handling-start : Handling n recs slots d work₀ top work₀ top n
  handling-start = record {
    todo = refl;
    link = refl;
    state = λ y. go y (eqb (cluster_of n recs y) d) refl;
    long = refl;
    spot = refl;
    most = omega arith;
    inside = omega arith;
  }
    where
      go : (y : ℕ) (b : Bool) → eqb (cluster_of n recs y) d ≡ b → area n (9 * n) work₀ y ≡ cond (b && ltb n y) (d + 4096) (area n (9 * n) work₀ y)
      go y true e = rw (le-ltb n y (member y (eqb-true _ _ e)).1) refl
      go y false e = refl

  below_top : (k : ℕ) → below k ≡ below (top_member (cluster_of n recs) d k)
  unfolding outs_below view
  below_top k = gather-top (cluster_of n recs) d K.out K.kids k

  -- down to the next member
  handling-down : (work : List ℕ) (at k : ℕ) → Handling n recs slots d work₀ top work at k
      → Handling n recs slots d work₀ top work at (top_member (cluster_of n recs) d k)
  handling-down work at k g = record {
    todo = ap (λ (l : List ℕ). visit_words 0 l ++ (mem_of n work at).todo) (sym (below_top k)) ∙ g.todo;
    link = g.link;
    state = λ y. g.state y ∙ ap (λ (b : Bool). cond b (d + 4096) (area n (9 * n) work₀ y)) (go y (eqb (cluster_of n recs y) d) refl (dec_lt k y));
    long = g.long;
    spot = g.spot ∙ ap (λ (l : List ℕ). top + length l) (below_top k);
    most = omega (arith, g.most, top-le (cluster_of n recs) d k);
    inside = g.inside;
  }
    where
      t : ℕ
      t = top_member (cluster_of n recs) d k

      low : (y : ℕ) → cluster_of n recs y ≡ d → y ≤ k → Dec (y ≤ t) → y ≤ t
      low y e h (yes l) = l
      low y e h (no l) = absurd (top-none (cluster_of n recs) d k y (omega (arith, l)) h e)

      go : (y : ℕ) (b : Bool) → eqb (cluster_of n recs y) d ≡ b → Dec (k < y) → (b && ltb k y) ≡ (b && ltb t y)
      go y false e h = refl
      go y true e (yes l) = lt-ltb k y l ∙ sym (lt-ltb t y (omega (arith, top-le (cluster_of n recs) d k)))
      go y true e (no l) =
          le-ltb k y (omega (arith, l)) ∙ sym (le-ltb t y (low y (eqb-true _ _ e) (omega (arith, l)) (dec_le y t)))

  abbrev pub At : List ℕ → ℕ → ℕ → Type 0
  At work at x = Handling n recs slots d work₀ top work at x × (x ≢ 0 → cluster_of n recs x ≡ d)

  at_top : (work : List ℕ) (at k x : ℕ) → x ≡ top_member (cluster_of n recs) d k → Handling n recs slots d work₀ top work at k → At work at x
  at_top work at k x e g = (rw e (handling-down work at k g), λ h. ap (cluster_of n recs) e ∙ top_in (cluster_of n recs) d k (λ f. h (e ∙ f)))

  module _ (z : Sized n recs slots work₀) (ch : Chained n recs (area n (8 * n) work₀) d) where
    pub older-start : (w x : ℕ) → w ≡ area n (8 * n) work₀ d → x ≡ w / 4096 % 4096 → At work₀ top x
    older-start w x e f = at_top work₀ top n x (f ∙ ap (λ (v : ℕ). v / 4096 % 4096) e ∙ ch.first) handling-start

    module _ (work : List ℕ) (at x : ℕ) (g : At work at x) (nz : x ≢ 0) where
      below-own : below x ≡ below (x - 1) ++ out_kids K x
      unfolding outs_below view gather out_kids
      below-own = go x nz (g.1 nz)
        where
          go : (y : ℕ) → y ≢ 0 → cluster_of n recs y ≡ d → below y ≡ below (y - 1) ++ out_kids K y
          go zero h e = absurd (h refl)
          go (suc y) h e = let i : suc y - 1 ≡ y = omega arith in rw (i, eq-eqb (cluster_of n recs (suc y)) d e) refl

      own-length : length (below x) ≡ length (below (x - 1)) + length (out_kids K x)
      own-length = ap length below-own ∙ length-append (below (x - 1)) (out_kids K x)

      pub older-sized : Sized n recs slots work
      older-sized = resized z g.0.long

      pub older-room : length (below n) ≤ top → length (out_kids K x) ≤ at
      older-room h = omega (arith, g.0.spot, own-length)

      module _ (work' : List ℕ) (at' : ℕ) (l : length work' ≡ length work)
          (m : mem_of n work' at' ≡ in_front (visit_words 0 (out_kids K x)) (with_state (upd (area n (9 * n) work) x (d + 4096)) (mem_of n work at)))
          (s : at' + length (out_kids K x) ≡ at) where
        link-now : area n (8 * n) work' ≡ area n (8 * n) work
        unfolding mem_of in_front with_state
        link-now = ap (λ (v : Memory). v.link) m

        state-now : area n (9 * n) work' ≡ upd (area n (9 * n) work) x (d + 4096)
        unfolding mem_of in_front with_state
        state-now = ap (λ (v : Memory). v.state) m

        todo-now : (mem_of n work' at').todo ≡ visit_words 0 (out_kids K x) ++ (mem_of n work at).todo
        unfolding in_front with_state
        todo-now = ap (λ (v : Memory). v.todo) m

        passed : Handling n recs slots d work₀ top work' at' (x - 1)
        passed = record {
          todo = ap (λ (t : List ℕ). visit_words 0 (below (x - 1)) ++ t) todo-now
              ∙ sym (append_assoc (visit_words 0 (below (x - 1))) (visit_words 0 (out_kids K x)) (mem_of n work at).todo)
              ∙ ap (λ (t : List ℕ). t ++ (mem_of n work at).todo) (sym (ap (visit_words 0) below-own ∙ words_append 0 (below (x - 1)) (out_kids K x)))
              ∙ g.0.todo;
          link = link-now ∙ g.0.link;
          state = λ y. ap (λ (f : ℕ → ℕ). f y) state-now ∙ st y (ℕ_discrete y x);
          long = l ∙ g.0.long;
          spot = omega (arith, g.0.spot, own-length);
          most = omega (arith, g.0.most);
          inside = omega (arith, g.0.inside);
        }
          where
            st : (y : ℕ) → Dec (y ≡ x)
                → upd (area n (9 * n) work) x (d + 4096) y ≡ cond (eqb (cluster_of n recs y) d && ltb (x - 1) y) (d + 4096) (area n (9 * n) work₀ y)
            st y (yes e) =
                rw (e, upd_same (area n (9 * n) work) x (d + 4096), eq-eqb (cluster_of n recs x) d (g.1 nz), lt-ltb (x - 1) x (omega (arith, nz))) refl
            st y (no e) =
                upd_other (area n (9 * n) work) x y (d + 4096) e ∙ g.0.state y
                ∙ ap (λ (b : Bool). cond (eqb (cluster_of n recs y) d && b) (d + 4096) (area n (9 * n) work₀ y)) (lt y e (dec_lt x y))
              where
                lt : (y : ℕ) → y ≢ x → Dec (x < y) → ltb x y ≡ ltb (x - 1) y
                lt y e (yes h) = lt-ltb x y h ∙ sym (lt-ltb (x - 1) y (omega arith))
                lt y e (no h) = le-ltb x y (omega (arith, h)) ∙ sym (le-ltb (x - 1) y (omega (arith, h, e)))

        module _ (w x' : ℕ) (i : w ≡ area n (8 * n) work' x) (j : x' ≡ w % 4096) where
          next-is : x' ≡ top_member (cluster_of n recs) d (x - 1)
          next-is =
              j ∙ ap (λ (v : ℕ). v % 4096) (i ∙ ap (λ (f : ℕ → ℕ). f x) (link-now ∙ g.0.link)) ∙ ch.next x (g.1 nz)

          pub older-again : At work' at' x'
          older-again = at_top work' at' (x - 1) x' next-is passed

          pub older-less : x' < x
          older-less = omega (arith, next-is, top-le (cluster_of n recs) d (x - 1), nz)

    pub older-end : (work : List ℕ) (at x : ℕ) → At work at x → x ≡ 0
        → (mem_of n work at ≡ handled K d (mem_of n work₀ top)) × (at + length (below n) ≡ top)
    unfolding handled in_front with_state mem_of outs_below gather visit_words view
    older-end work at x g e =
        (mem-path (rw e at g.0.todo) g.0.link (fun_ext (λ y. g.0.state y ∙ ap (λ (b : Bool). cond b (d + 4096) (area n (9 * n) work₀ y)) (st y))), (rw e at g.0.spot) ∙ omega arith)
      where
        st : (y : ℕ) → (eqb (cluster_of n recs y) d && ltb x y) ≡ eqb (cluster_of n recs y) d
        st y = go (eqb (cluster_of n recs y) d) refl
          where
            go : (b : Bool) → eqb (cluster_of n recs y) d ≡ b → (b && ltb x y) ≡ b
            go true f = lt-ltb x y (omega (arith, e, (member y (eqb-true _ _ f)).0))
            go false f = refl
