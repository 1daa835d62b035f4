-- The walk from all its starts.
-- Assumes nothing.
use Prim.Native.Nat.{ℕ, zero, suc, ◌+◌, ◌-◌, ◌*◌, ◌/◌, ◌%◌, ◌≤◌, ◌<◌}
use mathlib.Core.Path.{◌≡◌, refl, sym, ap, ◌∙◌, fun_ext, subst}
use mathlib.Core.Bool.{Bool, true, false, cond}
use mathlib.Core.List.Memᴰ
use mathlib.Core.List.{List, [], ◌∷◌, ◌++◌, Memᴰ, append-nil, append_assoc}
use mathlib.Core.Logic.{◌≢◌, ◌⊎◌, inl, inr}
use native.Mathlib.Decide.{ℕ_discrete, dec_le}
use native.Mathlib.Omega.{arith}
use lib.Dec.{leb}
use lib.ListN.{length, get_or, take}
use lib.Seq.{take-suc}
use borrow.Author.Tests.{lt-leb}
use Rattle.layout.specs.Limits.{within}
use Rattle.records.specs.Record.{cluster}
use Rattle.layout.proofs.FieldLaws.{field_lt}
use Rattle.graph.specs.Heap.{Heap}
use Rattle.graph.specs.Clusters.{size}
use Rattle.graph.specs.Analysis.{Item, Work, items, begin, finish}
use Rattle.graph.specs.Invariant.{Ready, Inv, Sizes, unseen_slots}
use Rattle.graph.proofs.AnalysisEnds.{begin-inv, begin-append, after, finish-done, unseen-le}
use Rattle.graph.proofs.SizeTable.{sizes_begin}
use Rattle.rules.specs.Buffers.{rec_of}
use Rattle.rules.specs.View.{view, heap_in}
use Rattle.rules.proofs.ViewLaws.{view-ready, view-kids}
use Rattle.links.specs.Links.{top_member, next_member, link_word}
use Rattle.table.specs.Clusters.{cluster_of}
use Rattle.links.proofs.MemberOrder.{top-le, top_in, next-is}
use Rattle.analyse.specs.Memory.{stack_end, area, mem_of, seen_in, cluster_in, size_in, walk_of}
use Rattle.analyse.specs.Called.{Chained, Ground, visiting, Walking, Walked}
use Rattle.table.specs.Room.{Sized}
use Rattle.analyse.specs.Filling.{Filling}
use Rattle.analyse.specs.Starts.{Formable, From, GoesOn, Fit}
use Rattle.analyse.proofs.MemoryLaws.{todo-end}
use Rattle.analyse.proofs.SlotLaws.{resized}
use Rattle.analyse.proofs.FillLaws.{area-zero, area-over}
use Rattle.analyse.proofs.OlderLaws.{none_first, none_over, in-range}
use Rattle.analyse.proofs.WalkLaws.{no-todo}
use Rattle.analyse.proofs.VisitLaws.{work-path}

cluster-lt : (r : ℕ) → cluster r < 4096
cluster-lt r = field_lt 16 12 r

-- ---- before the first visit

module _ (n limit : ℕ) (recs slots list sets work₀ work₁ work from : List ℕ) (F : Formable n limit recs slots list sets work₀ from)
    (L : Filling n (8 * n) (link_word n (cluster_of n recs)) work₀ work₁ n) (S : Filling n (9 * n) (cluster_of n recs) work₁ work n) where
  abbrev H : Heap
  H = heap_in n recs slots list

  ready : Ready H
  unfolding view
  ready = view-ready n recs slots list F.listed F.heads

  sized : Sized n recs slots work
  sized = resized F.sized (S.long ∙ L.long)

  states : (x : ℕ) → area n (9 * n) work x ≡ cluster_of n recs x
  states zero = area-zero n (9 * n) work ∙ sym (none_first n recs)
  states (suc x) = go (dec_le (suc x) n)
    where
      go : Dec (suc x ≤ n) → area n (9 * n) work (suc x) ≡ cluster_of n recs (suc x)
      go (yes l) = S.filled (suc x) (omega arith) l
      go (no l) = area-over n (9 * n) work (suc x) (omega (arith, l)) ∙ sym (none_over n recs (suc x) (omega (arith, l)))

  low : (x : ℕ) → cluster_of n recs x < 4096
  low x = cluster-lt (rec_of n recs x)

  cl-is : cluster_in (area n (9 * n) work) ≡ cluster_of n recs
  cl-is = fun_ext (λ x. let a = states x in omega (arith, low x))

  seen-is : seen_in (area n (9 * n) work) ≡ (λ x. false)
  seen-is = fun_ext (λ x. ap (leb 4096) (states x) ∙ lt-leb 4096 (cluster_of n recs x) (low x))

  link_at : (x : ℕ) → 1 ≤ x → x ≤ n → area n (8 * n) work x ≡ link_word n (cluster_of n recs) x
  link_at x p q = ap (λ (f : ℕ → ℕ). f x) (S.others (8 * n) (inl (omega arith))) ∙ L.filled x p q

  next_low : (x : ℕ) → x ≤ n → next_member n (cluster_of n recs) x < 4096
  unfolding next_member
  next_low x h = go (within 1 n (cluster_of n recs x))
    where
      go : (b : Bool) → cond b (top_member (cluster_of n recs) (cluster_of n recs x) (x - 1)) 0 < 4096
      go true = omega (arith, top-le (cluster_of n recs) (cluster_of n recs x) (x - 1), F.sized.room.most)
      go false = omega arith

  link-top : (x : ℕ) → 1 ≤ x → x ≤ n → area n (8 * n) work x / 4096 ≡ top_member (cluster_of n recs) x n
  unfolding link_word
  link-top x p q = let a = link_at x p q in omega (arith, next_low x q)

  link-next : (x : ℕ) → 1 ≤ x → x ≤ n → area n (8 * n) work x % 4096 ≡ next_member n (cluster_of n recs) x
  unfolding link_word
  link-next x p q = let a = link_at x p q in omega (arith, next_low x q)

  -- a cluster that is not older has no member
  no_member : (c : ℕ) → c ≢ 0 → cluster_of n recs c ≡ 0 → top_member (cluster_of n recs) c n ≡ 0
  no_member c p e = go (ℕ_discrete (top_member (cluster_of n recs) c n) 0)
    where
      t : ℕ
      t = top_member (cluster_of n recs) c n

      go : Dec (t ≡ 0) → t ≡ 0
      go (yes z) = z
      go (no q) =
          let i : cluster_of n recs t ≡ c = top_in (cluster_of n recs) c n q in
          absurd (p (sym i ∙ sym (F.heads t (λ z. p (sym i ∙ z))) ∙ ap (cluster_of n recs) i ∙ e))

  table : (c : ℕ) → c ≢ 0 → cluster_of n recs c ≡ 0 → size_in (area n (8 * n) work) c ≡ 0
  table c p e = go (dec_le c n)
    where
      go : Dec (c ≤ n) → area n (8 * n) work c / 4096 ≡ 0
      go (yes q) = link-top c (omega (arith, p)) q ∙ no_member c p e
      go (no q) = ap (λ (w : ℕ). w / 4096) (area-over n (8 * n) work c (omega (arith, q)))

  small : (x : ℕ) → size_in (area n (8 * n) work) x ≤ 4095
  small zero = rw (area-zero n (8 * n) work) (omega arith)
  small (suc x) = go (dec_le (suc x) n)
    where
      go : Dec (suc x ≤ n) → area n (8 * n) work (suc x) / 4096 ≤ 4095
      go (yes q) = omega (arith, link-top (suc x) (omega arith) q, top-le (cluster_of n recs) (suc x) n, F.sized.room.most)
      go (no q) = rw (area-over n (8 * n) work (suc x) (omega (arith, q))) (omega arith)

  chains : (d : ℕ) → d ≢ 0 → cluster_of n recs d ≡ d → Chained n recs (area n (8 * n) work) d
  chains d p e =
      let b = in-range n recs d d p e in
      record {
        first = (let a = link-top d b.0 b.1 in omega (arith, top-le (cluster_of n recs) d n, F.sized.room.most));
        next = λ x f. let r = in-range n recs x d p f in link-next x r.0 r.1 ∙ next-is n (cluster_of n recs) x d f b.0 b.1;
      }

  ground : Ground n recs slots list sets limit work
  unfolding view Sizes
  ground = record {
    sized = sized;
    known = F.known;
    ready = ready;
    limits = F.limits;
    sizes = λ c p e. table c p e ∙ sizes_begin H ready c p e ∙ ap (λ (f : ℕ → ℕ). size n f c) (sym cl-is);
    small = small;
    chains = chains;
  }

  begun : walk_of H (mem_of n work (stack_end n)) ≡ begin H []
  unfolding walk_of mem_of begin items view
  begun = work-path (no-todo H n work sized.work-long) seen-is cl-is

  pub prepared : From n recs slots list sets limit [] work
  unfolding view begin items unseen_slots
  prepared = record {
    fit = none;
    walked = record {
      walking = record {
        ground = ground;
        inv = subst (λ (w : Work). Inv H limit w) (sym begun) (begin-inv H limit [] ready none);
        marks = λ w m. absurd (Memᴰ.not-nil (subst (λ (l : List ℕ). Memᴰ w l) (todo-end n work sized.work-long) m));
        room = let a = unseen-le H (seen_in (area n (9 * n) work)) (λ x b. view-kids n recs slots x) in omega arith;
        inside = omega arith;
      };
      ended = begun ∙ sym (finish-done H limit ready F.limits.0 (begin H []) refl);
    };
  }
    where
      none : Fit n []
      none k m = absurd (Memᴰ.not-nil m)

-- ---- more starts

fit-more : (n : ℕ) (a : List ℕ) (o : ℕ) → Fit n a → o ≤ n → Fit n (a ++ (o ∷ []))
fit-more n a o p q k m = go (Memᴰ.append_cases a m)
  where
    go : Memᴰ k a ⊎ Memᴰ k (o ∷ []) → k ≤ n
    go (inl x) = p k x
    go (inr (Memᴰ.head e)) = rw e q
    go (inr (Memᴰ.tail x)) = absurd (Memᴰ.not-nil x)

module _ (n : ℕ) (recs slots list sets : List ℕ) (limit : ℕ) where
  abbrev K : Heap
  K = heap_in n recs slots list

  abbrev On : List ℕ → List ℕ → List ℕ → Type 0
  On b work work' = GoesOn n recs slots list sets limit b work work'

  pub on_none : (work : List ℕ) → Walking n recs slots list sets limit work (stack_end n) → On [] work work
  on_none work w = record { walking = w; after = λ a f. rw (append-nil a) f }

  pub on_both : (b c work work₁ work₂ : List ℕ) → On b work work₁ → On c work₁ work₂ → On (b ++ c) work work₂
  on_both b c work work₁ work₂ f g = record {
    walking = g.walking;
    after = λ a h. subst (λ (l : List ℕ). From n recs slots list sets limit l work₂) (append_assoc a b c) (g.after (a ++ b) (f.after a h));
  }

  pub on_one : (o : ℕ) (work work' : List ℕ) → o ≤ n → Walked n recs slots list sets limit (visiting K o 0 (mem_of n work (stack_end n))) work' → On (o ∷ []) work work'
  unfolding view after items
  on_one o work work' h w = record {
    walking = w.walking;
    after = λ a f. let fit = fit-more n a o f.fit h in record {
      fit = fit;
      walked = record {
        walking = w.walking;
        ended = w.ended ∙ ap (finish K limit) (same a f) ∙ sym (begin-append K limit f.walked.walking.ground.ready f.walked.walking.ground.limits.0 a (o ∷ []) fit).0;
      };
    };
  }
    where
      same : (a : List ℕ) → From n recs slots list sets limit a work → visiting K o 0 (mem_of n work (stack_end n)) ≡ after K limit (begin K a) (items 0 (o ∷ []))
      same a f =
          work-path (ap (λ (l : List Item). record { obj = o; passed = 0 } ∷ l) (no-todo K n work f.walked.walking.ground.sized.work-long))
          (ap (λ (v : Work). v.seen) f.walked.ended) (ap (λ (v : Work). v.cl) f.walked.ended)

  -- ---- the roots, by index

  pub roots-more : (roots : List ℕ) (j : ℕ) (work work₁ work₂ : List ℕ) → On (take j roots) work work₁ → On (get_or roots j 0 ∷ []) work₁ work₂
      → j < length roots → On (take (j + 1) roots) work work₂
  roots-more roots j work work₁ work₂ f g h =
      let e : j + 1 ≡ suc j = omega arith in
      rw (e, take-suc roots j 0 h) (on_both (take j roots) (get_or roots j 0 ∷ []) work work₁ work₂ f g)
