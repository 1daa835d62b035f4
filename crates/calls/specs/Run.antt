-- What running a call of a list answers and leaves in the buffers.
use Rattle.std.specs.Prelude.{ℕ, cond, List, eqb, take, Option, Some, None}
use Rattle.layout.specs.declared.answers.Control.{Control}
use Rattle.layout.specs.declared.answers.Done.{Done}
use Rattle.layout.specs.declared.answers.Saved.{Saved}
use Rattle.layout.specs.declared.answers.Tuning.{Tuning}
use Rattle.layout.specs.ControlRecord.{tuning_of, usual_tuning}
use Rattle.rules.specs.Create as Create
use Rattle.rules.specs.Allocate as Allocate
use Rattle.rules.specs.Read as Read
use Rattle.rules.specs.Show as Show
use Rattle.rules.specs.Write as Write
use Rattle.rules.specs.SetRoot as SetRoot
use Rattle.rules.specs.DeclareSink as DeclareSink
use Rattle.rules.specs.Analyse as Analyse
use Rattle.rules.specs.Collect as Collect
use Rattle.rules.specs.Save as Save
use Rattle.rules.specs.Load as Load
use Rattle.lines.specs.declared.kinds.Call.{Call}
use Rattle.lines.specs.declared.kinds.Kind.{Kind}
use Rattle.lines.specs.declared.kinds.Kind.TheVariants as kind
use Rattle.lines.specs.Kinds.{number, tuned_count}
use Rattle.calls.specs.declared.Ran.{Ran}

-- the answer and the buffers after the call
pub record Outcome : Type 0 where
  pub answer : Ran
  pub records : List ℕ
  pub slots : List ℕ
  pub roots : List ℕ
  pub sinks : List ℕ
  pub sets : List ℕ
  pub work : List ℕ
  pub map : List ℕ
  pub image : List ℕ

abbrev pub gives : Ran → List ℕ → List ℕ → List ℕ → List ℕ → List ℕ → List ℕ → List ℕ → List ℕ → Outcome
gives a recs slots roots list sets work map image =
    record { answer = a; records = recs; slots = slots; roots = roots; sinks = list; sets = sets; work = work; map = map; image = image }

-- a refusal, 0 if accepted, the values that the call answers, and what the next call is handed: a control record and the length of the last image
abbrev pub ran : ℕ → ℕ → ℕ → ℕ → Control → ℕ → Ran
ran refusal a b c control saved = record { refusal = refusal; a = a; b = b; c = c; control = control; saved = saved }

-- a save: its length is that of the last image, unless it is refused
unfoldable pub ran_save : Saved → ℕ → Ran
ran_save a saved = ran a.refusal a.length 0 0 a.control (cond (eqb a.refusal 0) a.length saved)

-- a load: n and r of the heap that it makes; refused, the column goes on with the control record c that it has
unfoldable pub ran_load : Done → Control → ℕ → Ran
ran_load a c saved = ran a.refusal a.control.n a.control.r 0 (cond (eqb a.refusal 0) a.control c) saved

-- the numbers of the analysis that a create names; the usual ones where it names none
unfoldable pub tuning_in : Call → Tuning
tuning_in l = cond (eqb l.count tuned_count) (tuning_of (number 2 l) (number 3 l) (number 4 l)) usual_tuning

-- c is the control record that the call is handed; the first `saved` bytes of the image are what was saved last
module _ (c : Control) (saved : ℕ) (recs slots roots list sets work map image : List ℕ) where
  -- nothing is done
  abbrev pub idle : Outcome
  idle = gives (ran 0 0 0 0 c saved) recs slots roots list sets work map image

  abbrev pub create : ℕ → ℕ → Tuning → Outcome
  create n r t =
      let o = Create.create n r t recs slots roots list sets in
      gives (ran o.answer.refusal 0 0 0 o.answer.control saved) o.records o.slots o.roots o.sinks o.sets work map image

  abbrev pub allocate : ℕ → Outcome
  allocate width =
      let o = Allocate.allocate c width recs slots in
      gives (ran o.answer.refusal o.answer.object 0 0 o.answer.control saved) o.records o.slots roots list sets work map image

  abbrev pub read : ℕ → ℕ → Outcome
  read i k = let a = Read.read c i k recs slots in gives (ran a.refusal a.word 0 0 a.control saved) recs slots roots list sets work map image

  -- where the part is that is shown
  abbrev pub show : ℕ → Outcome
  show i =
      let a = (Show.show c i recs slots).answer in
      gives (ran a.refusal a.start a.length 0 a.control saved) recs slots roots list sets work map image

  abbrev pub write : ℕ → ℕ → ℕ → Outcome
  write i k w =
      let o = Write.write c i k w recs slots list sets in
      gives (ran o.answer.refusal 0 0 0 o.answer.control saved) o.records o.slots roots list o.sets work map image

  abbrev pub set_root : ℕ → ℕ → Outcome
  set_root j w =
      let o = SetRoot.set_root c j w recs roots in
      gives (ran o.answer.refusal 0 0 0 o.answer.control saved) recs slots o.roots list sets work map image

  abbrev pub declare_sink : ℕ → Outcome
  declare_sink i =
      let o = DeclareSink.declare_sink c i recs slots roots list sets in
      gives (ran o.answer.refusal 0 0 0 o.answer.control saved) o.records slots roots o.sinks o.sets work map image

  abbrev pub analyse : Outcome
  analyse =
      let o = Analyse.analyse c recs slots roots list sets work in
      gives (ran o.answer.refusal o.answer.clusters o.answer.members 0 o.answer.control saved) o.records slots roots list o.sets o.work map image

  abbrev pub collect : Collect.Kind → Outcome
  collect kind =
      let o = Collect.collect kind c recs slots roots list sets work map in
      gives (ran o.answer.refusal o.answer.freed o.answer.kept o.answer.scanned o.answer.control saved) o.records o.slots roots o.sinks o.sets o.work o.map image

  abbrev pub save : Outcome
  save =
      let o = Save.save c recs slots roots list sets image in
      gives (ran_save o.answer saved) recs slots roots list sets work map o.image

  -- of the last image, with the numbers that the column has
  abbrev pub load : Outcome
  load =
      let o = Load.load c.tuning (take saved image) recs slots roots list sets in
      gives (ran_load o.answer c saved) o.records o.slots o.roots o.sinks o.sets work map image

  -- by clusters unless the number is 0
  abbrev way : ℕ → Collect.Kind
  way w = cond (eqb w 0) Collect.plainly Collect.by_clusters

  -- a call of a kind; a line that tells a name does nothing
  unfoldable pub run_kind : Kind → Call → Outcome
  run_kind kind.Wrote l = idle
  run_kind kind.Loaded l = idle
  run_kind kind.Create l = create (number 0 l) (number 1 l) (tuning_in l)
  run_kind kind.Allocate l = allocate (number 0 l)
  run_kind kind.Read l = read (number 0 l) (number 1 l)
  run_kind kind.Show l = show (number 0 l)
  run_kind kind.Write l = write (number 0 l) (number 1 l) (number 2 l)
  run_kind kind.Root l = set_root (number 0 l) (number 1 l)
  run_kind kind.Sink l = declare_sink (number 0 l)
  run_kind kind.Analyse l = analyse
  run_kind kind.Collect l = collect (way (number 0 l))
  run_kind kind.Save l = save
  run_kind kind.Load l = load
  run_kind (kind.Other k) l = idle

  -- the call by its kind; a line that makes none does nothing
  unfoldable pub run : Option Call → Outcome
  run None = idle
  run (Some l) = run_kind l.kind l
