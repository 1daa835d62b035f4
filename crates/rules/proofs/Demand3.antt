-- Demand 3, proved.
-- Assumes nothing.
use Prim.Native.Nat.{ℕ, zero, suc, ◌+◌, ◌-◌, ◌*◌, ◌≤◌, ◌<◌}
use mathlib.Core.Path.{◌≡◌, refl, sym, ap, ap₂, ◌∙◌, subst}
use mathlib.Core.Bool.{true}
use mathlib.Core.List.{List, [], ◌∷◌, ◌++◌, map}
use native.Mathlib.Omega.{arith}
use lib.ListN.{length, take, drop, replicate, length-drop, take-append-drop}
use lib.Seq.{take-add, drop-drop}
use borrow.Author.Tests.{eqb-true}
use Rattle.layout.specs.Limits.{slots_len, work_len, map_len}
use Rattle.records.specs.Record.{width}
use Rattle.layout.specs.Word.{is_nil}
use Rattle.layout.specs.Refusal.{first}
use Rattle.rules.specs.Buffers.{eight, used_words, other_words, all_of, numbers}
use Rattle.rules.specs.Collect.{by_clusters}
use Rattle.rules.specs.Collect as Collect
use Rattle.rules.specs.Load.{input_tests, image_n, image_r}
use Rattle.rules.specs.Calls.{Call, allocate, allocate_in_place, read, show, write, write_in_place, set_root, declare_sink, collect, analyse, save, load}
use Rattle.rules.specs.Plain.{Plain, Played, Cell, plain_size, eight_of, plain_slots, plain_step, plain_created}
use Rattle.rules.specs.Steps.{State, step, answers_of, after_all}
use Rattle.rules.specs.Demands.{LentCollection, LentLoad, Long, EachLent, ScansFew, Alike, Demand3, PlainKeeps, words_of, record_in}
use Rattle.rules.specs.PlainOf.{plain_of, cell_of, cells_of}
use Rattle.rules.proofs.ListLaws.{length-eight}
use Rattle.rules.proofs.BoolLaws.{and_split}
use Rattle.rules.proofs.Invariant.{Inv}
use Rattle.rules.proofs.Abstraction.{cell-words, cells-size}
use Rattle.rules.proofs.Simulation.{Same, used-length}
use Rattle.rules.proofs.ReadLaws.{read_same, show-same}
use Rattle.rules.proofs.SetRootLaws.{root-same}
use Rattle.rules.proofs.WriteLaws.{write_same, written-in-place}
use Rattle.rules.proofs.DeclareLaws.{declare-same}
use Rattle.rules.proofs.AnalyseLaws.{analyse-same}
use Rattle.rules.proofs.RoundLaws.{plain-reach}
use Rattle.rules.proofs.CreateLaws.{accepted, zeroed-inv, zeroed-plain}
use Rattle.rules.proofs.AllocateLaws.{allocate-same, allocated-in-place}
use Rattle.rules.proofs.CollectLaws.{collect-same, collect-is, scans-few}
use Rattle.rules.proofs.SaveLaws.{save-same}
use Rattle.rules.proofs.LoadLaws.{load_same}
use Rattle.rules.proofs.Calls.{step-inv}

-- ---- the slots are the plain heap's

nil-list : (l : List ℕ) → all_of is_nil l ≡ true → l ≡ replicate (length l) 0
unfolding all_of is_nil
nil-list [] e = refl
nil-list (w ∷ l) e = let t = and_split _ _ e in ap₂ (λ x r. x ∷ r) (eqb-true w 0 t.0) (nil-list l t.1)

slots-by : (f : ℕ → Cell) (slots : List ℕ) (k i : ℕ) → ((x : ℕ) → suc i ≤ x → x < suc i + k → eight_of (f x) ≡ eight slots x)
    → plain_slots (map f (numbers (suc i) k)) ≡ take (8 * k) (drop (8 * i) slots)
unfolding plain_slots numbers eight
slots-by f slots zero i h = refl
slots-by f slots (suc k) i h =
    let a : 8 * suc k ≡ 8 + 8 * k = omega arith in
    let b : 8 * i + 8 ≡ 8 * suc i = omega arith in
    ap₂ ◌++◌ (h (suc i) (omega arith) (omega arith)) (slots-by f slots k (suc i) (λ x p q. h x (omega arith) (omega arith)))
    ∙ sym (ap (λ (m : ℕ). take m (drop (8 * i) slots)) a ∙ take-add 8 (8 * k) (drop (8 * i) slots)
    ∙ ap (λ (l : List ℕ). take 8 (drop (8 * i) slots) ++ take (8 * k) l) (drop-drop 8 (8 * i) slots ∙ ap (λ (m : ℕ). drop m slots) b))

module _ (s : State) (I : Inv s) where
  eight-cell : (x : ℕ) → 1 ≤ x → x ≤ s.control.n → eight_of (cell_of s.control.n s.records s.slots x) ≡ eight s.slots x
  unfolding eight_of
  eight-cell x p q =
      let u = used-length s I x in
      ap (λ (l : List ℕ). l ++ replicate (8 - length l) 0) (cell-words s.control.n s.records s.slots x)
      ∙ ap (λ (l : List ℕ). words_of s x ++ l) (sym rest)
      ∙ unfold used_words other_words in (take-append-drop (width (record_in s x)) (eight s.slots x))
    where
      long : length (other_words s.control.n s.records s.slots x) ≡ 8 - length (words_of s x)
      long = unfold other_words in
          (length-drop (width (record_in s x)) (eight s.slots x)
          ∙ ap₂ (λ (a b : ℕ). a - b) (length-eight s.control.n s.slots x p q I.slots-long) (sym (used-length s I x)))

      rest : other_words s.control.n s.records s.slots x ≡ replicate (8 - length (words_of s x)) 0
      rest = nil-list _ (I.empty x p q) ∙ ap (λ (k : ℕ). replicate k 0) long

  pub same-slots : take (slots_len s.control.n) s.slots ≡ plain_slots (plain_of s).cells
  unfolding cells_of slots_len
  same-slots = sym (slots-by (cell_of s.control.n s.records s.slots) s.slots s.control.n 0 (λ x p q. eight-cell x p (omega arith)))

-- ---- demand 3

-- one call in a heap of n objects: what it is lent, by cases
abbrev pub LentOne : ℕ → Call → Type 0
LentOne n (allocate width) = Unit {0}
LentOne n (allocate_in_place width) = Unit {0}
LentOne n (read i k) = Unit {0}
LentOne n (show i) = Unit {0}
LentOne n (write i k w) = Unit {0}
LentOne n (write_in_place i k w) = Unit {0}
LentOne n (set_root j w) = Unit {0}
LentOne n (declare_sink i) = Unit {0}
LentOne n (collect kind work map) = (work_len n ≤ length work) × (map_len n ≤ length map) × Unit {0}
LentOne n (analyse work) = Unit {0}
LentOne n (save out) = Unit {0}
LentOne n (load t image recs slots roots list sets) = first (input_tests t image) ≡ 0 → Long (image_n image) (image_r image) recs slots roots list sets

lent_one : (n : ℕ) (call : Call) → LentCollection n call → LentLoad call → LentOne n call
lent_one n (allocate width) h k = tt
lent_one n (allocate_in_place width) h k = tt
lent_one n (read i j) h k = tt
lent_one n (show i) h k = tt
lent_one n (write i j w) h k = tt
lent_one n (write_in_place i j w) h k = tt
lent_one n (set_root j w) h k = tt
lent_one n (declare_sink i) h k = tt
lent_one n (collect kind work map) h k = let t = h kind work map refl in (t.0, t.1, tt)
lent_one n (analyse work) h k = tt
lent_one n (save out) h k = tt
lent_one n (load t image recs slots roots list sets) h k = k t image recs slots roots list sets refl

-- a call whose step, of either heap, is that of another
same-call : (call call' : Call) (s : State) → step call s ≡ step call' s → plain_step call (plain_of s) ≡ plain_step call' (plain_of s) → Same call' s → Same call s
same-call call call' s e f S = record {
  answers = ap (λ (p : Played State). p.answers) e ∙ S.answers ∙ sym (ap (λ (p : Played Plain). p.answers) f);
  after = ap (λ (p : Played State). plain_of p.after) e ∙ S.after ∙ sym (ap (λ (p : Played Plain). p.after) f);
}

pub step_same : (call : Call) (s : State) → Inv s → LentOne s.control.n call → Same call s
step_same (allocate width) s I h = allocate-same s I width
step_same (allocate_in_place width) s I h = same-call _ (allocate width) s (allocated-in-place s width) (unfold plain_step in refl) (allocate-same s I width)
step_same (read i k) s I h = read_same s I i k
step_same (show i) s I h = show-same s I i
step_same (write i k w) s I h = write_same s I i k w
step_same (write_in_place i k w) s I h = same-call _ (write i k w) s (written-in-place s i k w) (unfold plain_step in refl) (write_same s I i k w)
step_same (set_root j w) s I h = root-same s I j w
step_same (declare_sink i) s I h = declare-same s I i
step_same (collect kind work map) s I h = collect-same s I kind work map h.0 h.1
step_same (analyse work) s I h = analyse-same s I work
step_same (save out) s I h = save-same s I out
step_same (load t image recs slots roots list sets) s I h = load_same t image recs slots roots list sets s h

step-scans : (call : Call) (s : State) → Inv s → LentOne s.control.n call → ScansFew s call
step-scans call s I h work map e =
    let k : LentOne s.control.n (collect by_clusters work map) = subst (LentOne s.control.n) e h in
    subst (λ (o : Collect.Outcome). o.answer.scanned ≤ o.answer.kept) (sym (collect-is s I by_clusters work map k.0 k.1)) (scans-few s I by_clusters work map k.0 k.1)

pub alike : (calls : List Call) (s : State) (P : Plain) → Inv s → plain_of s ≡ P → EachLent calls P → Alike calls s P
unfolding answers_of after_all
alike [] s P I p h = record {
  answers = refl;
  slots = same-slots s I ∙ ap (λ (Q : Plain). plain_slots Q.cells) p;
  roots = ap (λ (Q : Plain). Q.roots) p;
  scans = tt;
}
alike (call ∷ l) s P I p h =
    let size : plain_size P ≡ s.control.n = sym (ap plain_size p) ∙ cells-size s.control.n s.records s.slots in
    let one : LentOne s.control.n call = subst (λ (k : ℕ). LentOne k call) size (lent_one (plain_size P) call h.0 h.1) in
    let S = step_same call s I one in
    let R = alike l (step call s).after (plain_step call P).after (step-inv call s I) (S.after ∙ ap (λ (Q : Plain). (plain_step call Q).after) p) h.2 in
    record {
      answers = ap₂ ◌++◌ (S.answers ∙ ap (λ (Q : Plain). (plain_step call Q).answers) p) R.answers;
      slots = R.slots;
      roots = R.roots;
      scans = (step-scans call s I one, R.scans);
    }

pub demand3 : Demand3
demand3 n r t recs slots roots list sets e calls h =
    let a = accepted n r t recs slots roots list sets e in
    subst (λ (s : State). Alike calls s (plain_created n r)) (sym a.1)
    (alike calls _ (plain_created n r) (zeroed-inv n r t recs slots roots list sets a.0) (zeroed-plain n r t recs slots roots list sets a.0) h)

pub plain-keeps : PlainKeeps
plain-keeps = plain-reach
