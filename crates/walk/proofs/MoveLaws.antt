-- Each move of the walk, made in the lent words.
-- Assumes nothing.
use Prim.Native.Nat.{ℕ, suc, ◌+◌, ◌-◌, ◌*◌, ◌≤◌}
use mathlib.Core.Path.{◌≡◌, refl, sym, ap, ◌∙◌, subst}
use mathlib.Core.Logic.{◌≢◌, ◌⊎◌, inl, inr}
use mathlib.Core.Bool.{Bool, true, false, cond}
use mathlib.Core.List.{List, [], ◌++◌, append_assoc, Memᴰ}
use native.Mathlib.Omega.{arith}
use lib.ListN.{length, get_or, take, drop}
use lib.Seq.{get_or-drop}
use Rattle.records.specs.Record.{width}
use Rattle.graph.specs.Numbers.{Obj, sum, count}
use Rattle.graph.specs.Heap.{Heap, targets}
use Rattle.graph.specs.Trace.{Flag, marked, postponed, reached, Flags, set_flag, Walk, scan, postpone, unpostpone, arrive}
use Rattle.graph.proofs.FlagLaws.{marked≢postponed, reached≢postponed, reached≢marked, postponed≢marked, set_flag-same, set_flag-other, set_flag-apart}
use Rattle.graph.proofs.FlagLaws.{rest, rest-set, rest-other, count_set, count-other}
use Rattle.graph.proofs.MemberLaws.{pointer_word, pointer-nonzero}
use Rattle.rules.specs.Buffers.{rec_of}
use Rattle.rules.specs.View.{view}
use Rattle.rules.proofs.BufferLaws.{used-part}
use Rattle.rules.proofs.ViewLaws.{view-closed}
use Rattle.table.specs.Room.{Sized}
use Rattle.postponed.proofs.PostponedLaws.{put-mapped, put-kept, mapped-kept}
use Rattle.postponed.specs.Postponed as P
use Rattle.postponed.specs.Postponed.{Mapped}
use Rattle.walk.specs.Marks.{flags_of, put_mark}
use Rattle.walk.specs.State.{walk_at, pending, pointers_in, Objects, link_at, Pushable, Pushed, State, Moved}
use Rattle.walk.proofs.MarkLaws.{length-mark, flags-put, unflagged-put, width_same, view-same}
use Rattle.walk.proofs.PendingLaws.{pending-kept, word-under, pending-pushed, beyond-pushed}

-- the links lie beyond the pending objects
link-beyond : (n : ℕ) (work work' : List ℕ) (x : ℕ) → drop (8 * n) work' ≡ drop (8 * n) work → link_at n work' x ≡ link_at n work x
link-beyond n work work' x e =
    sym (get_or-drop (8 * n) work' (x - 1) 0) ∙ ap (λ (l : List ℕ). get_or l (x - 1) 0) e ∙ get_or-drop (8 * n) work (x - 1) 0

-- the pointers of an object stand in its first slots
targets-are : (n : ℕ) (recs slots : List ℕ) (x k : ℕ) → 1 ≤ x → width (rec_of n recs x) ≤ 8 → k ≡ width (rec_of n recs x)
    → targets (view n recs slots) x ≡ pointers_in n (take k (drop (8 * (x - 1)) slots))
unfolding view
targets-are n recs slots x k low narrow is =
    ap (pointers_in n) (used-part n recs slots x low narrow ∙ ap (λ (m : ℕ). take m (drop (8 * (x - 1)) slots)) (sym is))

module _ (n : ℕ) (recs slots work : List ℕ) (top : ℕ) (s : State n recs slots work top) (o : ℕ) (io : Obj n o) where
  abbrev H : Heap
  H = view n recs slots

  abbrev flags : Flags
  flags = flags_of n recs

  long : n ≤ length recs
  long = s.sized.room.recs-long

  -- the room that is left after a flag was stored
  abbrev unspent : Flags → ℕ
  unspent t = sum n (λ x. cond (t marked x) 0 (length (targets H x)))

  module _ (f : Flag) (b : Bool) where
    abbrev recs' : List ℕ
    recs' = put_mark f o b recs

    same_heap : view n recs' slots ≡ H
    same_heap = view-same n recs recs' long (unflagged-put n recs f o b io) slots

    sized-put : (work' : List ℕ) → length work' ≡ length work → Sized n recs' slots work'
    sized-put work' e =
        let z = s.sized in
        record {
          room = record { most = z.room.most; recs-long = omega (arith, length-mark n recs f o b long io); slots-long = z.room.slots-long };
          work-long = omega (arith, z.work-long);
          widths = λ x. omega (arith, width_same n recs recs' long (unflagged-put n recs f o b io) x, z.widths x);
        }

    room-put : (top' : ℕ) → unspent (set_flag flags f o b) ≤ top' → sum n (λ x. cond (flags_of n recs' marked x) 0 (length (targets (view n recs' slots) x))) ≤ top'
    room-put top' h =
        subst (λ (G : Heap). sum n (λ x. cond (flags_of n recs' marked x) 0 (length (targets G x))) ≤ top') (sym same_heap)
        (subst (λ (t : Flags). sum n (λ x. cond (t marked x) 0 (length (targets H x))) ≤ top') (sym (flags-put n recs f o b long io)) h)

    -- a flag other than the mark leaves the room and the count
    module _ (ne : f ≢ marked) where
      room-other : unspent (set_flag flags f o b) ≤ top
      unfolding rest
      room-other = omega (arith, rest-other n flags f o b marked (λ x. length (targets H x)) ne, s.room)

      walk_put : (todo : List ℕ) → record { flags = set_flag flags f o b; todo = todo; scanned = count n (λ x. flags marked x) } ≡ walk_at n recs' todo
      walk_put todo =
          ap (λ (c : ℕ). record { flags = set_flag flags f o b; todo = todo; scanned = c }) (sym (count-other n flags f o b marked ne))
          ∙ ap (λ (t : Flags). record { flags = t; todo = todo; scanned = count n (λ x. t marked x) }) (sym (flags-put n recs f o b long io))

  -- a flag of o is stored, and the list ks stands in front
  module _
      (f : Flag)
      (b : Bool)
      (work' ks : List ℕ)
      (top' : ℕ)
      (front : pending n work' top' ≡ ks ++ pending n work top)
      (low : top' ≤ top)
      (work-same : length work' ≡ length work)
      (objects : Objects n ks)
    where
      state-put : unspent (set_flag flags f o b) ≤ top' → Mapped n (flags_of n (put_mark f o b recs) postponed) work' → State n (put_mark f o b recs) slots work' top'
      state-put roomy mapped =
          record {
            sized = sized-put f b work' work-same;
            high = omega (arith, s.high);
            room = room-put f b top' roomy;
            inside = λ p m. at p (mathlib.Core.List.Memᴰ.append_cases ks (subst (λ (l : List ℕ). Memᴰ p l) front m));
            mapped = mapped;
          }
        where
          at : (p : ℕ) → Memᴰ p ks ⊎ Memᴰ p (pending n work top) → Obj n p
          at p (inl m) = objects p m
          at p (inr m) = s.inside p m

  -- the set stays where neither its flag nor its words change
  mapped-put : (f : Flag) (b : Bool) (work' : List ℕ) → f ≢ postponed → drop (8 * n) work' ≡ drop (8 * n) work
      → Mapped n (flags_of n (put_mark f o b recs) postponed) work'
  mapped-put f b work' ne beyond =
      mapped-kept n (flags postponed) (flags_of n (put_mark f o b recs) postponed) work work' beyond
      (λ i. ap (λ (t : Flags). t postponed i) (flags-put n recs f o b long io) ∙ set_flag-apart flags f o b postponed i ne) s.mapped

  -- ---- reached, and postponed

  pub moved-arrive : Moved n slots recs work top (arrive (view n recs slots) o) (put_mark reached o true recs) work top
  unfolding arrive
  moved-arrive =
      record {
        same = λ more. walk_put reached true reached≢marked (pending n work top ++ more);
        state =
            state-put reached true work [] top refl (omega arith) refl (λ p m. absurd (mathlib.Core.List.Memᴰ.not-nil m)) (room-other reached true reached≢marked)
            (mapped-put reached true work reached≢postponed refl);
        kept = unflagged-put n recs reached o true io;
        links = λ x b. refl;
      }

  module _ (b : Bool) (work' : List ℕ) (p : work' ≡ P.put n o b work) (same-long : length work' ≡ length work) where
    under : take (9 * n) work' ≡ take (9 * n) work
    under = ap (take (9 * n)) p ∙ put-kept n work o s.sized.room.most s.sized.work-long io b

    pending-same : pending n work' top ≡ pending n work top
    pending-same = pending-kept n work work' top under s.high (omega (arith, s.sized.work-long)) same-long

    postponed-at : (i : ℕ) → flags_of n (put_mark postponed o b recs) postponed i ≡ set_flag flags postponed o b postponed i
    postponed-at i = ap (λ (t : Flags). t postponed i) (flags-put n recs postponed o b long io)

    mapped-later : Mapped n (flags_of n (put_mark postponed o b recs) postponed) work'
    mapped-later =
        subst (λ (w : List ℕ). Mapped n (flags_of n (put_mark postponed o b recs) postponed) w) (sym p)
        (put-mapped n work o s.sized.room.most s.sized.work-long io b (flags postponed) (flags_of n (put_mark postponed o b recs) postponed) s.mapped
        (postponed-at o ∙ set_flag-same flags postponed o b) (λ i d. postponed-at i ∙ set_flag-other flags postponed o b postponed i d))

    later : Moved n slots recs work top (λ w. record { flags = set_flag w.flags postponed o b; todo = w.todo; scanned = w.scanned }) (put_mark postponed o b recs) work' top
    later =
        record {
          same = λ more.
              walk_put postponed b postponed≢marked (pending n work top ++ more)
              ∙ ap (λ (l : List ℕ). walk_at n (put_mark postponed o b recs) (l ++ more)) (sym pending-same);
          state =
              state-put postponed b work' [] top pending-same (omega arith) same-long (λ q m. absurd (mathlib.Core.List.Memᴰ.not-nil m))
              (room-other postponed b postponed≢marked) mapped-later;
          kept = unflagged-put n recs postponed o b io;
          links = λ x c. word-under n work work' (8 * n + (x - 1)) under (omega arith);
        }

  pub moved-postpone : (work' : List ℕ) → work' ≡ P.put n o true work → length work' ≡ length work
      → Moved n slots recs work top (postpone (view n recs slots) o) (put_mark postponed o true recs) work' top
  unfolding postpone
  moved-postpone = later true

  pub moved-unpostpone : (work' : List ℕ) → work' ≡ P.put n o false work → length work' ≡ length work
      → Moved n slots recs work top (unpostpone (view n recs slots) o) (put_mark postponed o false recs) work' top
  unfolding unpostpone
  moved-unpostpone = later false

  -- ---- scan

  module _ (fresh : flags_of n recs marked o ≡ false) where
    spent : unspent (set_flag flags marked o true) + length (targets H o) ≤ top
    unfolding rest
    spent = omega (arith, rest-set n flags marked o (λ x. length (targets H x)) io fresh, s.room)

    -- with the width in k
    module _ (k : ℕ) (is : k ≡ width (rec_of n recs o)) where
      abbrev ks : List ℕ
      ks = pointers_in n (take k (drop (8 * (o - 1)) slots))

      own : targets H o ≡ ks
      own = targets-are n recs slots o k io.0 (s.sized.widths o) is

      own_in : Objects n ks
      unfolding view
      own_in y m =
          let t : Memᴰ y (targets H o) = subst (λ (l : List ℕ). Memᴰ y l) (sym own) m in
          (omega (arith, pointer-nonzero (H.kids o) y t), view-closed n recs slots o y (pointer_word (H.kids o) y t))

      pub scan-pushable : Pushable n slots (8 * (o - 1)) k work top
      scan-pushable =
          record {
            source = omega (arith, s.sized.room.slots-long, s.sized.widths o);
            space = omega (arith, ap length own, spent);
            end = omega (arith, s.high, s.sized.work-long);
          }

      pub scan-moved : (recs' work' : List ℕ) (top' : ℕ) → recs' ≡ put_mark marked o true recs → Pushed ks work top work' top'
          → length work' ≡ length work → Moved n slots recs work top (scan (view n recs slots) o) recs' work' top'
      unfolding scan
      scan-moved recs' work' top' e p same-long =
          rw e
          (record {
            same = λ more.
                ap (λ (l : List ℕ). record { flags = set_flag flags marked o true; todo = l ++ (pending n work top ++ more); scanned = suc (count n (λ x. flags marked x)) }) own
                ∙ ap (λ (c : ℕ). record { flags = set_flag flags marked o true; todo = ks ++ (pending n work top ++ more); scanned = c })
                (sym (count_set n flags marked o io fresh))
                ∙ ap (λ (t : Flags). record { flags = t; todo = ks ++ (pending n work top ++ more); scanned = count n (λ x. t marked x) })
                (sym (flags-put n recs marked o true long io))
                ∙ ap (λ (l : List ℕ). walk_at n (put_mark marked o true recs) l)
                (sym (append_assoc ks (pending n work top) more)
                ∙ ap (λ (l : List ℕ). l ++ more) (sym listed));
            state =
                state-put marked true work' ks top' listed (omega (arith, p.counted)) same-long own_in (omega (arith, ap length own, p.counted, spent))
                (mapped-put marked true work' marked≢postponed beyond);
            kept = unflagged-put n recs marked o true io;
            links = λ x b. link-beyond n work work' x beyond;
          })
        where
          listed : pending n work' top' ≡ ks ++ pending n work top
          listed = pending-pushed n work work' ks top top' p.front p.counted s.high

          beyond : drop (8 * n) work' ≡ drop (8 * n) work
          beyond = beyond-pushed n work work' ks top top' p.front p.counted s.high

-- ---- two moves, one after the other, and one in place of another

module _ (n : ℕ) (slots recs work : List ℕ) (top : ℕ) where
  pub moved_none : (f : Walk → Walk) → ((todo : List ℕ) → f (walk_at n recs todo) ≡ walk_at n recs todo) → State n recs slots work top
      → Moved n slots recs work top f recs work top
  moved_none f e s = record { same = λ more. e (pending n work top ++ more); state = s; kept = refl; links = λ x b. refl }

  pub moved_then : (f g : Walk → Walk) (recs₁ work₁ : List ℕ) (top₁ : ℕ) (recs₂ work₂ : List ℕ) (top₂ : ℕ)
      → Moved n slots recs work top f recs₁ work₁ top₁ → Moved n slots recs₁ work₁ top₁ g recs₂ work₂ top₂
      → Moved n slots recs work top (λ w. g (f w)) recs₂ work₂ top₂
  moved_then f g recs₁ work₁ top₁ recs₂ work₂ top₂ a b =
      record { same = λ more. ap g (a.same more) ∙ b.same more; state = b.state; kept = b.kept ∙ a.kept; links = λ x c. b.links x c ∙ a.links x c }

  pub moved_as : (f g : Walk → Walk) (recs' work' : List ℕ) (top' : ℕ) → ((todo : List ℕ) → g (walk_at n recs todo) ≡ f (walk_at n recs todo))
      → Moved n slots recs work top f recs' work' top' → Moved n slots recs work top g recs' work' top'
  moved_as f g _ _ _ e v =
      record { same = λ more. e (pending n work top ++ more) ∙ v.same more; state = v.state; kept = v.kept; links = v.links }
