-- Read and show, of the buffers and of the plain heap.
-- Assumes nothing.
use Prim.Native.Nat.{ℕ, ◌*◌}
use mathlib.Core.Path.{◌≡◌, refl, sym, ap, ◌∙◌}
use mathlib.Core.List.{List, [], ◌∷◌}
use lib.ListN.{get_or}
use Rattle.layout.specs.Limits.{slots_len}
use Rattle.layout.specs.declared.answers.Control.{Control}
use Rattle.layout.specs.declared.answers.WordRead.{WordRead}
use Rattle.layout.specs.Refusal.{first}
use Rattle.rules.specs.Calls.{read, show, got_word, got_words}
use Rattle.rules.specs.Read as Read
use Rattle.rules.specs.Show as Show
use Rattle.rules.specs.Plain.{Plain, Played, plain_words, object_tests, slot_tests, answer, plain_step}
use Rattle.rules.specs.Steps.{State, step}
use Rattle.rules.specs.PlainOf.{plain_of}
use Rattle.rules.proofs.Invariant.{Inv, inv-control, inv-sane, enough}
use Rattle.rules.proofs.Abstraction.{cells-size, at-free, at_words}
use Rattle.rules.proofs.Simulation.{Same, same_by, all-by, used-length}

-- nothing changes, not even the control record
pub read_stays : (s : State) (i k : ℕ) → (step (read i k) s).after ≡ s
unfolding step Read.read answer
read_stays s i k =
    ap (λ (c : Control). record { control = c; records = s.records; slots = s.slots; roots = s.roots; sinks = s.sinks; sets = s.sets })
    (all-by (λ (a : WordRead). a.control ≡ s.control) _ _ _ (λ z. refl) (λ m. refl))

pub show-stays : (s : State) (i : ℕ) → (step (show i) s).after ≡ s
unfolding step Show.show answer
show-stays s i =
    ap (λ (c : Control). record { control = c; records = s.records; slots = s.slots; roots = s.roots; sinks = s.sinks; sets = s.sets })
    (all-by (λ (o : Show.Outcome). o.answer.control ≡ s.control) _ _ _ (λ z. refl) (λ m. refl))

module _ (s : State) (I : Inv s) where
  -- the tests of read come down to those of the plain heap
  pub read-tests : (i k : ℕ) → first (Read.read_tests s.control i k s.records s.slots) ≡ first (slot_tests (plain_of s) i k)
  unfolding Read.read_tests first slot_tests object_tests plain_words slots_len
  read-tests i k =
      rw (
        inv-control s I,
        enough s.control.n s.records I.recs-long,
        enough (8 * s.control.n) s.slots I.slots-long,
        inv-sane s I i,
        cells-size s.control.n s.records s.slots,
        at-free s.control.n s.records s.slots i,
        at_words s.control.n s.records s.slots i,
        used-length s I i,
      )
      refl

  pub show-tests : (i : ℕ) → first (Show.show_tests s.control i s.records s.slots) ≡ first (object_tests (plain_of s) i)
  unfolding Show.show_tests first object_tests slots_len
  show-tests i =
      rw (
        inv-control s I,
        enough s.control.n s.records I.recs-long,
        enough (8 * s.control.n) s.slots I.slots-long,
        inv-sane s I i,
        cells-size s.control.n s.records s.slots,
        at-free s.control.n s.records s.slots i,
      )
      refl

  pub read_same : (i k : ℕ) → Same (read i k) s
  unfolding step Read.read plain_step answer plain_words
  read_same i k = record {
    answers = same_by _ _ _ _ _ _ (λ (o : WordRead). got_word o.refusal o.word ∷ []) (λ (p : Played Plain). p.answers) (read-tests i k)
        (λ z. ap (λ (l : List ℕ). got_word 0 (get_or l k 0) ∷ []) (sym (at_words s.control.n s.records s.slots i))) (λ m. refl);
    after = ap plain_of (read_stays s i k) ∙ all-by (λ (p : Played Plain). plain_of s ≡ p.after) _ _ _ (λ z. refl) (λ m. refl);
  }

  pub show-same : (i : ℕ) → Same (show i) s
  unfolding step Show.show plain_step answer plain_words
  show-same i = record {
    answers =
        same_by _ _ _ _ _ _ (λ (o : Show.Outcome). got_words o.answer.refusal o.words ∷ []) (λ (p : Played Plain). p.answers) (show-tests i)
        (λ z. ap (λ (l : List ℕ). got_words 0 l ∷ []) (sym (at_words s.control.n s.records s.slots i))) (λ m. refl);
    after = ap plain_of (show-stays s i) ∙ all-by (λ (p : Played Plain). plain_of s ≡ p.after) _ _ _ (λ z. refl) (λ m. refl);
  }
