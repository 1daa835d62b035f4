-- The heap of the buffers, call after call, and lists of calls ("The plain heap").
use Rattle.std.specs.Prelude.{ℕ, List, [], ◌∷◌, ◌++◌, take}
use Rattle.layout.specs.declared.answers.Control.{Control}
use Rattle.layout.specs.declared.answers.Tuning.{Tuning}
use Rattle.layout.specs.Limits.{map_len}
use Rattle.layout.specs.Refusal.{by}
use Rattle.rules.specs.Calls.{Call, allocate, allocate_in_place, read, show, write, write_in_place, set_root, declare_sink, collect, analyse, save, load, Answer, gave, got_word, got_words, did, swept, saved_as}
use Rattle.rules.specs.Plain.{Played, answer}
use Rattle.rules.specs.Create as Create
use Rattle.rules.specs.Allocate as Allocate
use Rattle.rules.specs.Read as Read
use Rattle.rules.specs.Show as Show
use Rattle.rules.specs.Write as Write
use Rattle.rules.specs.SetRoot as SetRoot
use Rattle.rules.specs.DeclareSink as DeclareSink
use Rattle.rules.specs.Analyse as Analyse
use Rattle.rules.specs.Collect as Collect
use Rattle.rules.specs.Save as Save
use Rattle.rules.specs.Load as Load

-- the control record and the five buffers that are handed on from call to call
pub record State : Type 0 where
  pub control : Control
  pub records : List ℕ
  pub slots : List ℕ
  pub roots : List ℕ
  pub sinks : List ℕ
  pub sets : List ℕ

-- the state that create leaves
unfoldable pub created : ℕ → ℕ → Tuning → List ℕ → List ℕ → List ℕ → List ℕ → List ℕ → State
created n r t recs slots roots list sets =
    let o = Create.create n r t recs slots roots list sets in
    record { control = o.answer.control; records = o.records; slots = o.slots; roots = o.roots; sinks = o.sinks; sets = o.sets }

-- the state that load leaves
unfoldable pub loaded : Tuning → List ℕ → List ℕ → List ℕ → List ℕ → List ℕ → List ℕ → State
loaded t image recs slots roots list sets =
    let o = Load.load t image recs slots roots list sets in
    record { control = o.answer.control; records = o.records; slots = o.slots; roots = o.roots; sinks = o.sinks; sets = o.sets }

-- a call in a state: what the game sees of its answer, and the state after it, with the control record that the call answers or leaves in place
unfoldable pub step : Call → State → Played State
step (allocate width) s =
    let o = Allocate.allocate s.control width s.records s.slots in
    answer (gave o.answer.refusal o.answer.object)
    (record { control = o.answer.control; records = o.records; slots = o.slots; roots = s.roots; sinks = s.sinks; sets = s.sets })
step (allocate_in_place width) s =
    let o = Allocate.allocate_in_place s.control width s.records s.slots in
    answer (gave o.answer.refusal o.answer.object) (record { control = o.control; records = o.records; slots = o.slots; roots = s.roots; sinks = s.sinks; sets = s.sets })
step (read i k) s =
    let a = Read.read s.control i k s.records s.slots in
    answer (got_word a.refusal a.word) (record { control = a.control; records = s.records; slots = s.slots; roots = s.roots; sinks = s.sinks; sets = s.sets })
step (show i) s =
    let o = Show.show s.control i s.records s.slots in
    answer (got_words o.answer.refusal o.words) (record { control = o.answer.control; records = s.records; slots = s.slots; roots = s.roots; sinks = s.sinks; sets = s.sets })
step (write i k w) s =
    let o = Write.write s.control i k w s.records s.slots s.sinks s.sets in
    answer (did o.answer.refusal)
    (record { control = o.answer.control; records = o.records; slots = o.slots; roots = s.roots; sinks = s.sinks; sets = o.sets })
step (write_in_place i k w) s =
    let o = Write.write_in_place s.control i k w s.records s.slots s.sinks s.sets in
    answer (did o.refusal) (record { control = o.control; records = o.records; slots = o.slots; roots = s.roots; sinks = s.sinks; sets = o.sets })
step (set_root j w) s =
    let o = SetRoot.set_root s.control j w s.records s.roots in
    answer (did o.answer.refusal) (record { control = o.answer.control; records = s.records; slots = s.slots; roots = o.roots; sinks = s.sinks; sets = s.sets })
step (declare_sink i) s =
    let o = DeclareSink.declare_sink s.control i s.records s.slots s.roots s.sinks s.sets in
    answer (did o.answer.refusal)
    (record { control = o.answer.control; records = o.records; slots = s.slots; roots = s.roots; sinks = o.sinks; sets = o.sets })
step (collect kind work map) s =
    let o = Collect.collect kind s.control s.records s.slots s.roots s.sinks s.sets work map in
    answer (swept o.answer.refusal o.answer.freed o.answer.kept (take (map_len s.control.n) o.map))
    (record { control = o.answer.control; records = o.records; slots = o.slots; roots = s.roots; sinks = o.sinks; sets = o.sets })
step (analyse work) s =
    let o = Analyse.analyse s.control s.records s.slots s.roots s.sinks s.sets work in
    record {
      answers = [];
      after = record { control = o.answer.control; records = o.records; slots = s.slots; roots = s.roots; sinks = s.sinks; sets = o.sets };
    }
step (save out) s =
    let o = Save.save s.control s.records s.slots s.roots s.sinks s.sets out in
    answer (saved_as o.answer.refusal o.answer.length) (record { control = o.answer.control; records = s.records; slots = s.slots; roots = s.roots; sinks = s.sinks; sets = s.sets })
-- where a load is refused the game goes on with the heap that it has
step (load t image recs slots roots list sets) s =
    let m = (Load.load t image recs slots roots list sets).answer.refusal in
    answer (did m) (by m (loaded t image recs slots roots list sets) (λ k. s))

-- ---- lists of calls, of either heap

module _ {A : Type 0} (next : Call → A → Played A) where
  -- the answers to a list of calls
  unfoldable pub answers_of : List Call → A → List Answer
  answers_of [] s = []
  answers_of (call ∷ l) s = (next call s).answers ++ answers_of l (next call s).after

  -- the heap after it
  unfoldable pub after_all : List Call → A → A
  after_all [] s = s
  after_all (call ∷ l) s = after_all l (next call s).after
