-- Set root, of the buffers and of the plain heap.
-- Assumes nothing.
use Prim.Native.Nat.{ℕ, ◌<◌}
use mathlib.Core.Path.{◌≡◌, refl, sym, ◌∙◌}
use mathlib.Core.Bool.{Bool, true, false, not, ◌&&◌, ◌||◌}
use mathlib.Core.List.{[], ◌∷◌, Memᴰ}
use mathlib.Core.Logic.{◌⊎◌, inl, inr}
use lib.Dec.{leb}
use lib.ListN.{length, length-set}
use lib.Seq.{length-take-le, take-set-lt}
use borrow.Author.Tests.{not-false, leb-false}
use Rattle.layout.proofs.RefusalLaws.{first-passed}
use Rattle.records.specs.Record as R
use Rattle.layout.specs.Refusal.{first}
use Rattle.layout.specs.Word.{is_nil, is_pointer}
use Rattle.graph.proofs.NumberLaws.{mem-of-set}
use Rattle.rules.specs.Calls.{set_root, did}
use Rattle.rules.specs.SetRoot as SetRoot
use Rattle.rules.specs.Plain.{Plain, Played, names_free, answer, plain_step}
use Rattle.rules.specs.Steps.{State, step}
use Rattle.rules.specs.Demands.{record_in, roots_of}
use Rattle.rules.specs.PlainOf.{plain_of}
use Rattle.rules.proofs.Invariant.{Inv, RootWord, inv-control, inv-illegal, enough}
use Rattle.rules.proofs.Abstraction.{cells-size, at-free}
use Rattle.rules.proofs.Simulation.{Same, same_by, all-by, is-named}

module _ (s : State) (I : Inv s) (j w : ℕ) where
  pub root-tests : first (SetRoot.set_root_tests s.control j w s.records s.roots)
      ≡ first ((7, leb (length (roots_of s)) j) ∷ (6, not (is_nil w || is_pointer (length (plain_of s).cells) w)) ∷ (23, names_free (plain_of s) w) ∷ [])
  unfolding SetRoot.set_root_tests first names_free
  root-tests =
      rw (
        inv-control s I,
        enough s.control.n s.records I.recs-long,
        enough s.control.r s.roots I.roots-long,
        length-take-le s.control.r s.roots I.roots-long,
        cells-size s.control.n s.records s.slots,
        at-free s.control.n s.records s.slots w,
        inv-illegal s I w,
      )
      refl

  -- what the tests leave
  facts : first (SetRoot.set_root_tests s.control j w s.records s.roots) ≡ 0
      → (j < s.control.r) × RootWord s.control.n s.records w
  unfolding SetRoot.set_root_tests
  facts z =
      let t1 = first-passed 19 _ _ z in
      let t2 = first-passed 1 _ _ t1.1 in
      let t3 = first-passed 6 _ _ t2.1 in
      let t4 = first-passed 5 _ _ t3.1 in
      let t5 = first-passed 22 _ _ t4.1 in
      (leb-false s.control.r j t3.0, word (is_nil w) (is_pointer s.control.n w) refl refl (not-false _ t4.0) t5.0)
    where
      word : (a b : Bool) → is_nil w ≡ a → is_pointer s.control.n w ≡ b → (a || b) ≡ true → (b && not (R.legal s.control.n (record_in s w))) ≡ false
          → RootWord s.control.n s.records w
      word true b ea eb e f = rw ea refl
      word false true ea eb e f = rw ea (is-named s I w eb (sym (inv-illegal s I w) ∙ f))
      word false false ea eb e f = absurd (mathlib.Core.Bool.false≢true e)

  pub root-same : Same (set_root j w) s
  unfolding step SetRoot.set_root plain_step answer
  root-same = record {
    answers = same_by _ _ _ _ _ _ (λ (o : SetRoot.Outcome). did o.answer.refusal ∷ []) (λ (p : Played Plain). p.answers) root-tests (λ z. refl) (λ m. refl);
    after = same_by _ _ _ _ _ _
        (λ (o : SetRoot.Outcome). plain_of (record { control = o.answer.control; records = s.records; slots = s.slots; roots = o.roots; sinks = s.sinks; sets = s.sets }))
        (λ (p : Played Plain). p.after) root-tests
        (λ z. λ i. record { last = s.control.last; roots = take-set-lt s.control.r s.roots j w (facts z).0 i; cells = (plain_of s).cells })
        (λ m. refl);
  }

  pub root-inv : Inv (step (set_root j w) s).after
  unfolding step SetRoot.set_root answer
  root-inv =
      all-by (λ (o : SetRoot.Outcome). Inv (record { control = o.answer.control; records = s.records; slots = s.slots; roots = o.roots; sinks = s.sinks; sets = s.sets })) _ _ _
      (λ z. record {
        sound = I.sound;
        recs-long = I.recs-long;
        slots-long = I.slots-long;
        roots-long = rw (length-set s.roots j w) I.roots-long;
        sinks-long = I.sinks-long;
        sets-long = I.sets-long;
        legal = I.legal;
        empty = I.empty;
        named = I.named;
        rooted = λ v m. go z v (mem-of-set (roots_of s) j w v (rw (take-set-lt s.control.r s.roots j w (facts z).0) at m));
        single = I.single;
        sets-exact = I.sets-exact;
        good = I.good;
      })
      (λ m. I)
    where
      go : first (SetRoot.set_root_tests s.control j w s.records s.roots) ≡ 0 → (v : ℕ) → (v ≡ w) ⊎ Memᴰ v (roots_of s)
          → RootWord s.control.n s.records v
      go z v (inl e) = rw e (facts z).1
      go z v (inr m) = I.rooted v m
