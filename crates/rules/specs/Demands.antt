-- The demands on the definitions: what holds of every input (1), of every heap that the calls made (2), and of every list of calls (3).
use Rattle.std.specs.Prelude.{ℕ, zero, suc, ◌+◌, ◌-◌, ◌*◌, ◌^◌, ◌≤◌, ◌<◌, ◌/◌, min, max, ◌≡◌, Bool, true, false, not, ◌&&◌, ◌||◌, cond, ◌≢◌, ◌⊎◌, ◌↔◌, eqb, ltb, length, get_or, set, take, drop, replicate}
use mathlib.Core.List.{List, [], ◌∷◌, ◌++◌, Memᴰ}
use Rattle.layout.specs.Limits.{sink_max, slots_len, work_len, map_len}
use Rattle.layout.specs.Field.{flag}
use Rattle.records.specs.Record.{in_use, is_written, is_sink, is_out, width, cluster, loose}
use Rattle.bitmap.specs.Bits.{holds, numbers_in}
use Rattle.layout.specs.ControlRecord.{bad_tuning, bad_control, new_control, no_control, with_last, with_write_loss}
use Rattle.layout.specs.Refusal.{Test, first}
use Rattle.layout.specs.declared.answers.Control.{Control}
use Rattle.layout.specs.declared.answers.Tuning.{Tuning}
use Rattle.layout.specs.declared.answers.WordRead.{WordRead}
use Rattle.layout.specs.declared.answers.Collected.{Collected}
use Rattle.graph.specs.Numbers.{Obj, has, count, sum, gather}
use Rattle.graph.specs.Heap.{Heap, pointers, targets, with_members, Reach}
use Rattle.graph.specs.Clusters.{size, outs_of}
use Rattle.graph.specs.Trace.{postponed, Walk, traced, unclustered}
use Rattle.graph.specs.Analysis.{begin, finish, walked}
use Rattle.graph.specs.Analysis as Graph
use Rattle.graph.specs.DepthFirst.{Forms}
use Rattle.graph.specs.Writes.{store, declare}
use Rattle.rules.specs.Buffers.{rec_of, eight, used_words}
use Rattle.rules.specs.View.{target, heap_in, starts_in}
use Rattle.rules.specs.WellFormed.{lists, list_ok, sets_ok, well_formed}
use Rattle.rules.specs.Create as Create
use Rattle.rules.specs.Allocate as Allocate
use Rattle.rules.specs.Read as Read
use Rattle.rules.specs.Show as Show
use Rattle.rules.specs.Write as Write
use Rattle.rules.specs.SetRoot as SetRoot
use Rattle.rules.specs.DeclareSink as DeclareSink
use Rattle.rules.specs.Analyse.{rule_of}
use Rattle.rules.specs.Analyse as Analyse
use Rattle.rules.specs.Collect.{Kind, plainly, by_clusters}
use Rattle.rules.specs.Collect as Collect
use Rattle.endian.specs.Bytes.{Octets, bytes_of}
use Rattle.rules.specs.Image.{sinks_kind, chunk}
use Rattle.rules.specs.Save as Save
use Rattle.rules.specs.Load.{image_n, image_r, image_tests, input_tests, loaded_sinks}
use Rattle.rules.specs.Load as Load
use Rattle.rules.specs.Calls.{Call, allocate, allocate_in_place, read, show, write, write_in_place, set_root, declare_sink, collect, analyse, save, load}
use Rattle.rules.specs.Plain.{Plain, plain_size, plain_words, plain_sink, kept_numbers, plain_created, plain_step, plain_slots, plain_chunks, plain_image, plain_loaded}
use Rattle.rules.specs.Steps.{State, created, loaded, step, answers_of, after_all}
use Rattle.rules.specs.PlainOf.{plain_of}

-- ==== demand 1: every input, and no hypothesis

-- the order of the refusals, whatever the call but a save or a load
abbrev pub order : List ℕ
order = 1 ∷ 30 ∷ 20 ∷ 2 ∷ 3 ∷ 4 ∷ 7 ∷ 21 ∷ 22 ∷ 29 ∷ 5 ∷ 6 ∷ 23 ∷ 25 ∷ 24 ∷ []

-- that of a save: the second 2 is for too little space
abbrev pub save_order : List ℕ
save_order = 20 ∷ 2 ∷ 21 ∷ 2 ∷ []

-- that of f chunks at most: at each in number order, then 2
unfoldable pub chunk_order : ℕ → List ℕ
chunk_order zero = 2 ∷ []
chunk_order (suc f) = 26 ∷ 27 ∷ 28 ∷ chunk_order f

-- that of a load of f chunks at most
abbrev pub load_order : ℕ → List ℕ
load_order f = 30 ∷ chunk_order f

-- the numbers of the tests are some of the list's, in its order
unfoldable pub in_order : List ℕ → List Test → Bool
in_order [] [] = true
in_order [] (t ∷ T) = false
in_order (k ∷ l) [] = true
in_order (k ∷ l) (t ∷ T) = in_order l (cond (eqb k t.0) T (t ∷ T))

-- the test of number k holds, and none before it in the list does
pub data Refuses (k : ℕ) : List Test → Type 0 where
  here : {t : Test} {l : List Test} → t.0 ≡ k → t.1 ≡ true → Refuses k (t ∷ l)
  there : {t : Test} {l : List Test} → t.1 ≡ false → Refuses k l → Refuses k (t ∷ l)

-- a call's tests are in the order given; its outcome has the refusal k, for k above 0, exactly where they refuse with k; refused, it is what is given for that
pub record Decided {A : Type 0} (order : List ℕ) (tests : List Test) (outcome : A) (refusal : A → ℕ) (refused : ℕ → A) : Type 0 where
  pub ordered : in_order order tests ≡ true
  pub numbers : (k : ℕ) → 1 ≤ k → (refusal outcome ≡ k) ↔ Refuses k tests
  pub unchanged : refusal outcome ≢ 0 → outcome ≡ refused (refusal outcome)

-- a buffer before and after a call: no word after its first k changes
abbrev pub Within : ℕ → List ℕ → List ℕ → Type 0
Within k before after = (length after ≡ length before) × (drop k after ≡ drop k before)

-- the first k words of a buffer are 0
abbrev pub Cleared : ℕ → List ℕ → Type 0
Cleared k l = take k l ≡ replicate k 0

-- a buffer before and after a call: its word at place j becomes w, and no other changes
abbrev pub Stored : ℕ → ℕ → List ℕ → List ℕ → Type 0
Stored j w before after = (j < length before) × (after ≡ set before j w)

-- after a write the record of object i has written set, and any other is as it was or, of a member of its cluster, without cluster and out
abbrev pub Touches : ℕ → ℕ → (ℕ → ℕ) → (ℕ → ℕ) → Type 0
Touches n i was now =
    (is_written (now i) ≡ true)
    × ((x : ℕ) → Obj n x → x ≢ i → (now x ≡ was x) ⊎ ((cluster (was i) ≢ 0) × (cluster (was x) ≡ cluster (was i)) × (now x ≡ loose (was x))))

-- the walk of a collection has come to its end
abbrev pub Ended : Heap → Walk → Type 0
Ended H w = (w.todo ≡ []) × ((x : ℕ) → Obj H.n x → w.flags postponed x ≡ false)

-- the place of x in the order last + 1 to n, then 1 to last
unfoldable pub place : ℕ → ℕ → ℕ → ℕ
place last n x = cond (ltb last x) (x - last) (n - last + x)

-- an accepted allocate gives i, the first free object in that order, whose record then has bit 0 and the width alone, and whose words are 0; no other object changes
pub record Gives (c : Control) (width : ℕ) (recs slots : List ℕ) (i : ℕ) (o : Allocate.Outcome) : Type 0 where
  pub object : Obj c.n i
  pub free : rec_of c.n recs i ≡ 0
  pub first : (x : ℕ) → Obj c.n x → rec_of c.n recs x ≡ 0 → place c.last c.n i ≤ place c.last c.n x
  pub used : rec_of c.n o.records i ≡ 1 + 256 * width
  pub words : eight o.slots i ≡ replicate 8 0
  pub others : (x : ℕ) → Obj c.n x → x ≢ i → (rec_of c.n o.records x ≡ rec_of c.n recs x) × (eight o.slots x ≡ eight slots x)
  pub control : o.answer.control ≡ with_last i c

-- a heap that no call has written to since it was created or loaded: no limit, no losses, and no object written or in a cluster
pub record Fresh (c : Control) (recs : List ℕ) : Type 0 where
  pub limit : c.limit ≡ 0
  pub losses : (c.write_loss ≡ 0) × (c.out_loss ≡ 0)
  pub plain : (x : ℕ) → let r = rec_of c.n recs x in (cluster r ≡ 0) × (is_out r ≡ false) × (is_written r ≡ false)

-- the three numbers of an analysis are each in range
pub record Ranges (t : Tuning) : Type 0 where
  pub least : (1 ≤ t.least_members) × (t.least_members ≤ 4095)
  pub outs : t.outs_per_ten ≤ 80
  pub lowest : (1 ≤ t.lowest_limit) × (t.lowest_limit ≤ 4095)

-- all nine numbers of a control record are in order; the limit is 0, or not below the lowest
pub record InOrder (c : Control) : Type 0 where
  pub objects : (1 ≤ c.n) × (c.n ≤ 4095)
  pub roots : (1 ≤ c.r) × (c.r ≤ 64)
  pub last : c.last ≤ c.n
  pub limit : (c.limit ≡ 0) ⊎ ((c.tuning.lowest_limit ≤ c.limit) × (c.limit ≤ 4095))
  pub losses : (c.write_loss ≤ c.n) × (c.out_loss ≤ c.n)
  pub tuning : Ranges c.tuning

-- call by call, for all inputs: what a refused call gives, what an accepted one answers and stores, and which words never change
pub record Demand1 : Type 0 where
  -- the conditions of 30 and of 20: some number is out of range, or out of order
  pub tunings : (t : Tuning) → (bad_tuning t ≡ false) ↔ Ranges t
  pub controls : (c : Control) → (bad_control c ≡ false) ↔ InOrder c
  pub created : (n r : ℕ) (t : Tuning) (recs slots roots list sets : List ℕ)
      → let o = Create.create n r t recs slots roots list sets in
      Decided order (Create.create_tests n r t recs slots roots list sets) o (λ o. o.answer.refusal)
      (λ k. Create.gives (record { refusal = k; control = no_control }) recs slots roots list sets)
      × Within n recs o.records × Within (slots_len n) slots o.slots × Within r roots o.roots
      × Within sink_max list o.sinks × Within n sets o.sets
      × (o.answer.refusal ≡ 0
      → (o.answer.control ≡ new_control n r t) × Cleared n o.records × Cleared (slots_len n) o.slots × Cleared r o.roots
      × Cleared sink_max o.sinks × Cleared n o.sets)
  pub allocated : (c : Control) (width : ℕ) (recs slots : List ℕ)
      → let o = Allocate.allocate c width recs slots in
      Decided order (Allocate.allocate_tests c width recs slots) o (λ o. o.answer.refusal)
      (λ k. Allocate.gives (record { refusal = k; object = 0; control = c }) recs slots)
      × Within c.n recs o.records × Within (slots_len c.n) slots o.slots
      × (o.answer.refusal ≡ 24 → (x : ℕ) → Obj c.n x → rec_of c.n recs x ≢ 0)
      × (o.answer.refusal ≡ 0 → Gives c width recs slots o.answer.object o)
      × (Allocate.allocate_in_place c width recs slots
      ≡ Allocate.gives_in_place (record { refusal = o.answer.refusal; object = o.answer.object }) o.answer.control o.records o.slots)
  pub word_read : (c : Control) (i k : ℕ) (recs slots : List ℕ)
      → let a = Read.read c i k recs slots in
      Decided order (Read.read_tests c i k recs slots) a (λ (a : WordRead). a.refusal) (λ m. record { refusal = m; word = 0; control = c })
      × (a.control ≡ c) × (a.refusal ≡ 0 → (8 * (i - 1) + k < length slots) × (a.word ≡ get_or slots (8 * (i - 1) + k) 0))
  pub shown : (c : Control) (i : ℕ) (recs slots : List ℕ)
      → let o = Show.show c i recs slots in
      Decided order (Show.show_tests c i recs slots) o (λ o. o.answer.refusal)
      (λ k. record { answer = record { refusal = k; start = 0; length = 0; control = c }; words = [] })
      × (o.answer.control ≡ c)
      × (o.answer.refusal ≡ 0 → (o.answer.start ≡ 8 * (i - 1)) × (o.answer.length ≡ width (rec_of c.n recs i))
      × (o.answer.start + o.answer.length ≤ length slots) × (o.words ≡ take o.answer.length (drop o.answer.start slots)))
  pub written : (c : Control) (i k w : ℕ) (recs slots list sets : List ℕ)
      → let o = Write.write c i k w recs slots list sets in
      Decided order (Write.write_tests c i k w recs slots list sets) o (λ o. o.answer.refusal)
      (λ m. Write.gives (record { refusal = m; control = c }) recs slots sets)
      × Within c.n recs o.records × Within (slots_len c.n) slots o.slots × Within c.n sets o.sets
      × (o.answer.control ≡ with_write_loss o.answer.control.write_loss c)
      × (o.answer.refusal ≡ 0 → Stored (8 * (i - 1) + k) w slots o.slots × Touches c.n i (rec_of c.n recs) (rec_of c.n o.records))
      × (Write.write_in_place c i k w recs slots list sets
      ≡ Write.gives_in_place o.answer.refusal o.answer.control o.records o.slots o.sets)
  pub root_set : (c : Control) (j w : ℕ) (recs roots : List ℕ)
      → let o = SetRoot.set_root c j w recs roots in
      Decided order (SetRoot.set_root_tests c j w recs roots) o (λ o. o.answer.refusal) (λ k. SetRoot.gives (record { refusal = k; control = c }) roots)
      × Within c.r roots o.roots × (o.answer.control ≡ c) × (o.answer.refusal ≡ 0 → Stored j w roots o.roots)
  pub declared : (c : Control) (i : ℕ) (recs slots roots list sets : List ℕ)
      → let o = DeclareSink.declare_sink c i recs slots roots list sets in
      Decided order (DeclareSink.declare_tests c i recs slots roots list sets) o (λ o. o.answer.refusal)
      (λ k. DeclareSink.gives (record { refusal = k; control = c }) recs list sets)
      × Within c.n recs o.records × Within sink_max list o.sinks × Within c.n sets o.sets × (o.answer.control ≡ c)
  pub analysed : (c : Control) (recs slots roots list sets work : List ℕ)
      → let o = Analyse.analyse c recs slots roots list sets work in
      Decided order (Analyse.analyse_tests c recs slots roots list sets work) o (λ o. o.answer.refusal)
      (λ k. Analyse.gives (record { refusal = k; clusters = 0; members = 0; control = c }) recs sets work)
      × Within c.n recs o.records × Within c.n sets o.sets × Within (work_len c.n) work o.work × (o.answer.refusal ≡ 0 → Cleared (work_len c.n) o.work)
  -- of either kind
  pub collected : (kind : Kind) (c : Control) (recs slots roots list sets work map : List ℕ)
      → let o = Collect.collect kind c recs slots roots list sets work map in
      Decided order (Collect.collect_tests c recs slots roots list sets work map) o (λ o. o.answer.refusal)
      (λ k. Collect.gives (record { refusal = k; freed = 0; kept = 0; scanned = 0; control = c }) recs slots list sets work map)
      × Within c.n recs o.records × Within (slots_len c.n) slots o.slots × Within sink_max list o.sinks × Within c.n sets o.sets
      × Within (work_len c.n) work o.work
      × Within (map_len c.n) map o.map × (o.answer.refusal ≡ 0 → Cleared (work_len c.n) o.work) × (o.answer.control ≡ c)
  pub saved : (c : Control) (recs slots roots list sets out : List ℕ)
      → let o = Save.save c recs slots roots list sets out in
      Decided save_order (Save.save_tests c recs slots roots list sets out) o (λ o. o.answer.refusal)
      (λ k. Save.gives (record { refusal = k; length = 0; control = c }) out)
      × Within o.answer.length out o.image × (o.answer.control ≡ c)
      × (o.answer.refusal ≡ 0 → (o.answer.length ≤ length out) × (o.answer.length ≤ 160 + 36 * c.n + 4 * c.r))
  pub loaded : (t : Tuning) (image recs slots roots list sets : List ℕ)
      → let o = Load.load t image recs slots roots list sets in
      Decided (load_order (suc (length image))) (Load.load_tests t image recs slots roots list sets) o (λ o. o.answer.refusal)
      (λ k. Load.gives (record { refusal = k; control = no_control }) recs slots roots list sets)
      × Within (image_n image) recs o.records × Within (slots_len (image_n image)) slots o.slots × Within (image_r image) roots o.roots
      × Within sink_max list o.sinks × Within (image_n image) sets o.sets
      × (o.answer.refusal ≡ 0 → Fresh o.answer.control o.records × (o.answer.control.tuning ≡ t))
  -- in every well-formed heap the walks of both collections and of the analysis, which make a number of steps, are then at their end
  pub ends : (c : Control) (recs slots roots list sets : List ℕ) → well_formed c recs slots roots list sets ≡ true
      → let H = heap_in c.n recs slots list in
      let from = starts_in c.r roots in
      Ended H (traced H from) × Ended H (traced (unclustered H) from) × ((limit : ℕ) → 1 ≤ limit → (finish H limit (begin H from)).todo ≡ [])

-- ==== demand 2: what the calls do to objects and clusters, in every heap that they made and, where it is said, in any heap

-- a state that an accepted create or load made, the latter of any image, and calls led to, accepted or refused, with any arguments and any buffers
pub data Made : State → Type 0 where
  new : {s : State} (n r : ℕ) (t : Tuning) (recs slots roots list sets : List ℕ) → (Create.create n r t recs slots roots list sets).answer.refusal ≡ 0
      → s ≡ created n r t recs slots roots list sets → Made s
  took : {s : State} (t : Tuning) (image recs slots roots list sets : List ℕ) → (Load.load t image recs slots roots list sets).answer.refusal ≡ 0
      → s ≡ loaded t image recs slots roots list sets → Made s
  called : {s t : State} (call : Call) → Made s → t ≡ (step call s).after → Made t

-- the record of object x
abbrev pub record_in : State → ℕ → ℕ
record_in s x = rec_of s.control.n s.records x

-- the same after a call
abbrev pub record_after : Call → State → ℕ → ℕ
record_after call s x = record_in (step call s).after x

-- the heap that the buffers hold: pointers, sinks and their places, written bits, clusters, out bits
abbrev pub heap_of : State → Heap
heap_of s = heap_in s.control.n s.records s.slots s.sinks

-- the words that object x uses
abbrev pub words_of : State → ℕ → List ℕ
words_of s x = used_words s.control.n s.records s.slots x

-- the roots, where walks start
abbrev pub roots_of : State → List ℕ
roots_of s = take s.control.r s.roots

-- x is reached by pointers from a root
abbrev pub Reachable : State → ℕ → Type 0
Reachable s x = Reach (targets (heap_of s)) (pointers (roots_of s)) x

-- ---- collections

-- the outcome of a collection
abbrev pub collected : State → Kind → List ℕ → List ℕ → Collect.Outcome
collected s kind work map = Collect.collect kind s.control s.records s.slots s.roots s.sinks s.sets work map

-- the objects that a collection is to keep: those that a path leads to; by clusters a path may also go from a head to a member
abbrev pub KeptBy : Kind → State → ℕ → Type 0
KeptBy plainly s x = Reachable s x
KeptBy by_clusters s x = Reach (with_members (heap_of s)) (pointers (roots_of s)) x

-- the objects that it scans: all that a plain one keeps; by clusters no more, and as many as the walk over the clusters scans
abbrev pub Scans : State → Kind → Collected → Type 0
Scans s plainly a = a.scanned ≡ a.kept
Scans s by_clusters a = (a.scanned ≤ a.kept) × (a.scanned ≡ (traced (heap_of s) (roots_of s)).scanned)

-- what an accepted collection with the outcome o does, if t is the state after it
pub record Sweeps (s t : State) (kind : Kind) (o : Collect.Outcome) : Type 0 where
  -- an object in use is freed exactly if it is not to be kept
  pub frees : (x : ℕ) → Obj s.control.n x → in_use (record_in s x) ≡ true → (record_in t x ≡ 0) ↔ (KeptBy kind s x → ⊥)
  -- the freed map holds the freed and no other number, and the count of freed is that of its ones
  pub maps : (x : ℕ) → (holds x (take (map_len s.control.n) o.map) ≡ true)
      ↔ (Obj s.control.n x × (in_use (record_in s x) ≡ true) × (record_in t x ≡ 0))
  pub freed : o.answer.freed ≡ length (numbers_in 0 (take (map_len s.control.n) o.map))
  -- kept are the objects in use after it
  pub kept : o.answer.kept ≡ count s.control.n (λ x. in_use (record_in t x))
  pub scanned : Scans s kind o.answer
  -- who is left was in use with the same words, width, written and sink bit; its cluster is as it was if the head is left too, and else none
  pub leaves : (x : ℕ) → record_in t x ≢ 0 → (in_use (record_in t x) ≡ in_use (record_in s x)) × (words_of t x ≡ words_of s x) × (width (record_in t x) ≡ width (record_in s x))
      × (is_written (record_in t x) ≡ is_written (record_in s x)) × (is_sink (record_in t x) ≡ is_sink (record_in s x))
  pub stays : (x : ℕ) → record_in t x ≢ 0 → record_in t (cluster (record_in s x)) ≢ 0 → cluster (record_in t x) ≡ cluster (record_in s x)
  pub goes : (x : ℕ) → record_in t (cluster (record_in s x)) ≡ 0 → cluster (record_in t x) ≡ 0
  -- the place of a freed sink is empty, and no other place changes
  pub places : (k : ℕ) → k < sink_max → let y = get_or s.sinks k 0 in get_or t.sinks k 0 ≡ cond (eqb (record_in t y) 0) 0 y
  pub formed : well_formed t.control t.records t.slots t.roots t.sinks t.sets ≡ true

-- and what it does in a heap that the calls made: either kind frees all that no path leads to, and no member of a cluster whose head it keeps
pub record Collects (s : State) (kind : Kind) (work map : List ℕ) : Type 0 where
  pub accepted : (collected s kind work map).answer.refusal ≡ 0
  pub frees : (x : ℕ) → Obj s.control.n x → in_use (record_in s x) ≡ true → (record_after (collect kind work map) s x ≡ 0) ↔ (Reachable s x → ⊥)
  pub stays : (x : ℕ) → record_after (collect kind work map) s (cluster (record_in s x)) ≢ 0
      → cluster (record_after (collect kind work map) s x) ≡ cluster (record_in s x)

-- both kinds leave the same records, slots, sinks, sets and map
pub record SameEnd (s : State) (work map : List ℕ) : Type 0 where
  pub records : (collected s plainly work map).records ≡ (collected s by_clusters work map).records
  pub slots : (collected s plainly work map).slots ≡ (collected s by_clusters work map).slots
  pub sinks : (collected s plainly work map).sinks ≡ (collected s by_clusters work map).sinks
  pub sets : (collected s plainly work map).sets ≡ (collected s by_clusters work map).sets
  pub maps : (collected s plainly work map).map ≡ (collected s by_clusters work map).map

-- ---- clusters

-- the outcome of an analysis
abbrev pub analysed : State → List ℕ → Analyse.Outcome
analysed s work = Analyse.analyse s.control s.records s.slots s.roots s.sinks s.sets work

-- the size limit that an analysis goes by: the one in the control record that it answers
abbrev pub limit_in : State → List ℕ → ℕ
limit_in s work = (analysed s work).answer.control.limit

-- after an accepted analysis, write or declaration the buffers hold exactly the heap of its rule
pub record Ruled (s : State) : Type 0 where
  pub analysed : (work : List ℕ) → (analysed s work).answer.refusal ≡ 0
      → heap_of (step (analyse work) s).after
      ≡ (Graph.analyse (rule_of s.control.tuning) (heap_of s) (limit_in s work) (roots_of s)).heap
  pub written : (i k w : ℕ) → (Write.write s.control i k w s.records s.slots s.sinks s.sets).answer.refusal ≡ 0
      → heap_of (step (write i k w) s).after ≡ store (heap_of s) i k (target s.control.n w)
  pub declared : (i : ℕ) → (DeclareSink.declare_sink s.control i s.records s.slots s.roots s.sinks s.sets).answer.refusal ≡ 0
      → heap_of (step (declare_sink i) s).after ≡ declare (heap_of s) i

-- the clusters of an analysis when its walk is over and none is deleted yet
abbrev pub walked_in : State → List ℕ → ℕ → ℕ
walked_in s work = walked (heap_of s) (limit_in s work) (roots_of s)

-- the number of members of cluster c then ("Analysis": s)
abbrev pub members_in : State → List ℕ → ℕ → ℕ
members_in s work c = size s.control.n (walked_in s work) c

-- the out pointers of cluster c then ("Analysis": p)
abbrev pub outs_in : State → List ℕ → ℕ → ℕ
outs_in s work c = outs_of s.control.n (heap_of s).kids (heap_of s).sink (walked_in s work) c

-- they are too many: ten times them is more than the control record's number for ten members, times the members
abbrev pub too_many_outs : State → List ℕ → ℕ → Bool
too_many_outs s work c = ltb (s.control.tuning.outs_per_ten * members_in s work c) (10 * outs_in s work c)

-- what an accepted analysis does to the clusters
pub record Analyses (s : State) (work : List ℕ) : Type 0 where
  -- its walk is the recursive one, depth first and in slot order, which no other clusters come from
  pub depth_first : Forms (heap_of s) (limit_in s work) (roots_of s) (walked_in s work)
  pub one_end : (cl : ℕ → ℕ) → Forms (heap_of s) (limit_in s work) (roots_of s) cl → cl ≡ walked_in s work
  -- a reached object is put into a new cluster, unless it was in one, is written or is a sink
  pub formed : (x : ℕ) → Reachable s x → cluster (record_in s x) ≡ 0 → is_written (record_in s x) ≡ false → is_sink (record_in s x) ≡ false
      → (walked_in s work x ≢ 0) × (cluster (record_in s (walked_in s work x)) ≡ 0)
  pub sizes : (c : ℕ) → c ≢ 0 → cluster (record_in s c) ≡ 0 → members_in s work c ≤ limit_in s work
  -- a new cluster is deleted exactly where it has too many out pointers or too few members
  pub deleted : (x : ℕ) → walked_in s work x ≢ 0 → cluster (record_in s (walked_in s work x)) ≡ 0
      → let c = walked_in s work x in
      cluster (record_after (analyse work) s x)
      ≡ cond (too_many_outs s work c || ltb (members_in s work c) s.control.tuning.least_members) 0 c
  -- so nothing new is left where the limit is below the least members
  pub none : limit_in s work < s.control.tuning.least_members → (x : ℕ) → cluster (record_in s x) ≡ 0 → cluster (record_after (analyse work) s x) ≡ 0
  pub unwritten : (x : ℕ) → is_written (record_after (analyse work) s x) ≡ false
  -- an older cluster keeps its members and their out bits, and gets no other member
  pub older : (x : ℕ) → cluster (record_in s x) ≢ 0
      → (cluster (record_after (analyse work) s x) ≡ cluster (record_in s x)) × (is_out (record_after (analyse work) s x) ≡ is_out (record_in s x))
  pub closed : (x : ℕ) → cluster (record_in s x) ≡ 0 → cluster (record_after (analyse work) s x) ≢ 0
      → cluster (record_in s (cluster (record_after (analyse work) s x))) ≡ 0
  -- answered are the objects that head a new cluster after it, and those that are in one
  pub clusters : (analysed s work).answer.clusters
      ≡ count s.control.n (λ h. eqb (cluster (record_in s h)) 0 && eqb (cluster (record_after (analyse work) s h)) h)
  pub members : (analysed s work).answer.members
      ≡ count s.control.n (λ x. eqb (cluster (record_in s x)) 0 && not (eqb (cluster (record_after (analyse work) s x)) 0))

-- the control record that an accepted analysis of any buffers answers
pub record Adjusts (s : State) (work : List ℕ) : Type 0 where
  pub same : let c = (analysed s work).answer.control in
      (c.n ≡ s.control.n) × (c.r ≡ s.control.r) × (c.last ≡ s.control.last) × (c.tuning ≡ s.control.tuning)
  -- the limit is first a sixteenth of the objects in use, later half or twice what it was, and always at least the lowest and at most 4,095
  pub first : s.control.limit ≡ 0
      → limit_in s work ≡ max s.control.tuning.lowest_limit (min 4095 (count s.control.n (λ x. in_use (record_in s x)) / 16))
  pub halved : s.control.limit ≢ 0 → s.control.out_loss < s.control.write_loss
      → limit_in s work ≡ max s.control.tuning.lowest_limit (min 4095 (s.control.limit / 2))
  pub doubled : s.control.limit ≢ 0 → s.control.write_loss ≤ s.control.out_loss
      → limit_in s work ≡ max s.control.tuning.lowest_limit (min 4095 (2 * s.control.limit))
  pub write_loss : (analysed s work).answer.control.write_loss ≡ 0
  -- the members of the new clusters with too many out pointers
  pub out_loss : (analysed s work).answer.control.out_loss
      ≡ sum s.control.n (λ h. cond (eqb (cluster (record_in s h)) 0 && eqb (walked_in s work h) h && too_many_outs s work h) (members_in s work h) 0)

-- ---- the sets

-- object x is a member of the cluster of head h and points at object y
abbrev pub PointsFrom : State → ℕ → ℕ → ℕ → Type 0
PointsFrom s h y x = Obj s.control.n x × Obj s.control.n y × (cluster (record_in s x) ≡ h) × Memᴰ y (words_of s x)

-- the set of head h is exact: bit k says whether a member points at what is in place k of the list, and there is no bit past the places
abbrev pub ExactSet : State → ℕ → Type 0
ExactSet s h =
    let set = get_or s.sets (h - 1) 0 in
    (set < 2 ^ sink_max) × ((k : ℕ) → k < sink_max → (flag k set ≡ true) ↔ ((x : ℕ) × PointsFrom s h (get_or s.sinks k 0) x))

-- ---- writes and sinks

-- how many objects are in the cluster of i
abbrev pub cluster_size : State → ℕ → ℕ
cluster_size s i = count s.control.n (λ x. eqb (cluster (record_in s x)) (cluster (record_in s i)))

-- to store w in slot k of object i dissolves: the old word points into the cluster of i, w is another, and no other used slot of i holds the old one
abbrev pub Dissolves : State → ℕ → ℕ → ℕ → Type 0
Dissolves s i k w =
    let words = words_of s i in
    let old = get_or words k 0 in
    (cluster (record_in s i) ≢ 0) × (cluster (record_in s old) ≡ cluster (record_in s i))
    × (w ≢ old) × ((q : ℕ) → q < length words → q ≢ k → get_or words q 0 ≢ old)

-- what an accepted write does to the clusters, the write loss and the sets: if it dissolves, all members lose their cluster; else none does
pub record Writes (s : State) (i k w : ℕ) : Type 0 where
  pub dissolved : Dissolves s i k w → (x : ℕ)
      → cluster (record_after (write i k w) s x) ≡ cond (eqb (cluster (record_in s x)) (cluster (record_in s i))) 0 (cluster (record_in s x))
  pub lost : Dissolves s i k w → (step (write i k w) s).after.control.write_loss ≡ s.control.write_loss + cluster_size s i
  pub kept : (Dissolves s i k w → ⊥) → (x : ℕ) → cluster (record_after (write i k w) s x) ≡ cluster (record_in s x)
  pub unlost : (Dissolves s i k w → ⊥) → (step (write i k w) s).after.control.write_loss ≡ s.control.write_loss
  pub fits : (step (write i k w) s).after.control.write_loss ≤ s.control.n
  -- the set of its object's head is exact then, by the list as it stands, and no other set changes
  pub exact : cluster (record_in s i) ≢ 0 → ExactSet (step (write i k w) s).after (cluster (record_in s i))
  pub others : (j : ℕ) → suc j ≢ cluster (record_in s i) → get_or (step (write i k w) s).after.sets j 0 ≡ get_or s.sets j 0

-- none of the first k places of this list is empty
abbrev pub FullTo : ℕ → List ℕ → Type 0
FullTo k list = (j : ℕ) → j < k → get_or list j 0 ≢ 0

-- what an accepted declaration does: the object becomes a sink, the members of its cluster lose it, and a new sink gets the first empty place
pub record Declares (s : State) (i : ℕ) : Type 0 where
  pub sinks : (x : ℕ) → is_sink (record_after (declare_sink i) s x) ≡ cond (eqb x i) true (is_sink (record_in s x))
  pub dissolved : (x : ℕ)
      → cluster (record_after (declare_sink i) s x) ≡ cond (eqb (cluster (record_in s x)) (cluster (record_in s i))) 0 (cluster (record_in s x))
  pub places : is_sink (record_in s i) ≡ false
      → (k : ℕ) × (k < sink_max) × (get_or s.sinks k 0 ≡ 0) × FullTo k s.sinks × ((step (declare_sink i) s).after.sinks ≡ set s.sinks k i)

-- the 64 places have every sink, each once, and nothing else; every set is exact
pub record Lists (s : State) : Type 0 where
  pub sinks : (k : ℕ) → k < sink_max → get_or s.sinks k 0 ≢ 0 → is_sink (record_in s (get_or s.sinks k 0)) ≡ true
  pub place : (x : ℕ) → is_sink (record_in s x) ≡ true → (k : ℕ) × (k < sink_max) × (get_or s.sinks k 0 ≡ x)
  pub once : (j k : ℕ) → j < sink_max → k < sink_max → get_or s.sinks j 0 ≢ 0 → get_or s.sinks j 0 ≡ get_or s.sinks k 0 → j ≡ k
  pub sets : (h : ℕ) → Obj s.control.n h → ExactSet s h

-- ---- refusals

-- the refusal of a call, 0 if it is accepted
abbrev pub refusal_of : Call → State → ℕ
refusal_of (allocate width) s = (Allocate.allocate s.control width s.records s.slots).answer.refusal
refusal_of (allocate_in_place width) s = (Allocate.allocate_in_place s.control width s.records s.slots).answer.refusal
refusal_of (read i k) s = (Read.read s.control i k s.records s.slots).refusal
refusal_of (show i) s = (Show.show s.control i s.records s.slots).answer.refusal
refusal_of (write i k w) s = (Write.write s.control i k w s.records s.slots s.sinks s.sets).answer.refusal
refusal_of (write_in_place i k w) s = (Write.write_in_place s.control i k w s.records s.slots s.sinks s.sets).refusal
refusal_of (set_root j w) s = (SetRoot.set_root s.control j w s.records s.roots).answer.refusal
refusal_of (declare_sink i) s = (DeclareSink.declare_sink s.control i s.records s.slots s.roots s.sinks s.sets).answer.refusal
refusal_of (collect kind work map) s = (collected s kind work map).answer.refusal
refusal_of (analyse work) s = (analysed s work).answer.refusal
refusal_of (save out) s = (Save.save s.control s.records s.slots s.roots s.sinks s.sets out).answer.refusal
refusal_of (load t image recs slots roots list sets) s = (Load.load t image recs slots roots list sets).answer.refusal

-- five buffers are long enough for n objects and r roots
abbrev pub Long : ℕ → ℕ → List ℕ → List ℕ → List ℕ → List ℕ → List ℕ → Type 0
Long n r recs slots roots list sets =
    (n ≤ length recs) × (slots_len n ≤ length slots) × (r ≤ length roots) × (sink_max ≤ length list) × (n ≤ length sets)

-- all of demand 2
pub record Demand2 : Type 0 where
  -- every accepted collection, in any heap
  pub sweeps : (s : State) (kind : Kind) (work map : List ℕ) → refusal_of (collect kind work map) s ≡ 0
      → Sweeps s (step (collect kind work map) s).after kind (collected s kind work map)
  pub collects : (s : State) → Made s → (kind : Kind) (work map : List ℕ) → work_len s.control.n ≤ length work
      → map_len s.control.n ≤ length map → Collects s kind work map
  pub same_end : (s : State) → Made s → (work map : List ℕ) → work_len s.control.n ≤ length work → map_len s.control.n ≤ length map
      → SameEnd s work map
  pub ruled : (s : State) → Made s → Ruled s
  pub analyses : (s : State) → Made s → (work : List ℕ) → refusal_of (analyse work) s ≡ 0 → Analyses s work
  pub adjusts : (s : State) (work : List ℕ) → refusal_of (analyse work) s ≡ 0 → Adjusts s work
  -- every accepted write, in any heap
  pub writes : (s : State) (i k w : ℕ) → refusal_of (write i k w) s ≡ 0 → Writes s i k w
  -- only a write that dissolves is refused for its loss, and only where the loss after it would be more than n
  pub overflows : (s : State) (i k w : ℕ) → refusal_of (write i k w) s ≡ 25
      → Dissolves s i k w × (s.control.n < s.control.write_loss + cluster_size s i)
  -- every accepted declaration, in any heap; a second one, accepted or refused, leaves all as it was
  pub declares : (s : State) (i : ℕ) → refusal_of (declare_sink i) s ≡ 0 → Declares s i
  pub again : (s : State) (i : ℕ) → is_sink (record_in s i) ≡ true → (step (declare_sink i) s).after ≡ s
  -- an analysis that is lent enough work is accepted
  pub accepts : (s : State) → Made s → (work : List ℕ) → work_len s.control.n ≤ length work → refusal_of (analyse work) s ≡ 0
  -- a new sink is refused for want of a place exactly where 64 objects are sinks
  pub full : (s : State) → Made s → (i : ℕ) → in_use (record_in s i) ≡ true → is_sink (record_in s i) ≡ false
      → (refusal_of (declare_sink i) s ≡ 29) ↔ (count s.control.n (λ x. is_sink (record_in s x)) ≡ sink_max)
  -- the list has the sinks, and the sets are exact; in any heap the tests of both pass exactly where that is so
  pub lists : (s : State) → Made s → Lists s
  pub tests : (s : State) → ((list_ok s.control.n s.records s.sinks ≡ true)
      × (sets_ok s.control.n s.records s.slots s.sinks s.sets ≡ true)) ↔ Lists s
  -- the five buffers, handed on from call to call, are never too short
  pub long : (s : State) → Made s → Long s.control.n s.control.r s.records s.slots s.roots s.sinks s.sets
  -- no call meets 20, 21 or 25
  pub unmet : (s : State) → Made s → (call : Call) → (refusal_of call s ≢ 20) × (refusal_of call s ≢ 21) × (refusal_of call s ≢ 25)

-- ==== demand 3: every list of calls, of the buffers and of the plain heap

-- what a collection in a heap of n objects is lent: enough work and map
abbrev pub LentCollection : ℕ → Call → Type 0
LentCollection n call = (kind : Kind) (work map : List ℕ) → call ≡ collect kind work map → (work_len n ≤ length work) × (map_len n ≤ length map)

-- what a load is lent: buffers for the heap of its image, unless what it is given is refused
abbrev pub LentLoad : Call → Type 0
LentLoad call =
    (t : Tuning) (image recs slots roots list sets : List ℕ) → call ≡ load t image recs slots roots list sets → first (input_tests t image) ≡ 0
    → Long (image_n image) (image_r image) recs slots roots list sets

-- each call of a list, made from this plain heap on, is lent enough; an analysis and a save may be lent anything
abbrev pub EachLent : List Call → Plain → Type 0
EachLent [] P = Unit {0}
EachLent (call ∷ l) P = LentCollection (plain_size P) call × LentLoad call × EachLent l (plain_step call P).after

-- if the call is a collection by clusters, it scans no more than it keeps
abbrev pub ScansFew : State → Call → Type 0
ScansFew s call =
    (work map : List ℕ) → call ≡ collect by_clusters work map
    → (collected s by_clusters work map).answer.scanned ≤ (collected s by_clusters work map).answer.kept

-- the same for each call of a list
abbrev pub EachScansFew : List Call → State → Type 0
EachScansFew [] s = Unit {0}
EachScansFew (call ∷ l) s = ScansFew s call × EachScansFew l (step call s).after

-- the heap of the buffers and the plain heap, after the same calls: the same answers, slots and roots
pub record Alike (calls : List Call) (s : State) (P : Plain) : Type 0 where
  pub answers : answers_of step calls s ≡ answers_of plain_step calls P
  pub slots : let t = after_all step calls s in take (slots_len t.control.n) t.slots ≡ plain_slots (after_all plain_step calls P).cells
  pub roots : let t = after_all step calls s in take t.control.r t.roots ≡ (after_all plain_step calls P).roots
  pub scans : EachScansFew calls s

-- all of demand 3
abbrev pub Demand3 : Type 0
Demand3 =
    (n r : ℕ) (t : Tuning) (recs slots roots list sets : List ℕ) → (Create.create n r t recs slots roots list sets).answer.refusal ≡ 0
    → (calls : List Call) → EachLent calls (plain_created n r) → Alike calls (created n r t recs slots roots list sets) (plain_created n r)

-- and what the plain heap keeps in a collection is what pointers reach from its roots
abbrev pub PlainKeeps : Type 0
PlainKeeps = (P : Plain) (x : ℕ) → Obj (plain_size P) x → (has x (kept_numbers P) ≡ true) ↔ Reach (plain_words P) P.roots x

-- ==== saves

-- a save of this heap into these bytes
abbrev pub saved_by : State → List ℕ → Save.Outcome
saved_by s out = Save.save s.control s.records s.slots s.roots s.sinks s.sets out

-- its image: as many of the bytes as it answers
abbrev pub image_by : State → List ℕ → List ℕ
image_by s out = take (saved_by s out).answer.length (saved_by s out).image

-- its sinks in the order of the list, empty places passed over
abbrev pub listed_in : State → List ℕ
listed_in s = pointers (take sink_max s.sinks)

-- chunks that are passed over, one after the other: of kinds from 0x8000 up, but not of sinks
pub data Passed : List ℕ → Type 0 where
  none : Passed []
  more : (kind : ℕ) (body : List ℕ) {z : List ℕ} → kind ≢ sinks_kind → 0x8000 ≤ kind → kind < 256 ^ 2 → length body < 256 ^ 4 → Passed z
      → Passed (chunk kind body ++ z)

-- what may stand behind the three chunks of a heap with these sinks, and the order that it gives them: without a chunk of sinks by number, and else as the one there lists them
pub data Behind (n : ℕ) (sink : ℕ → Bool) : List ℕ → List ℕ → Type 0 where
  unlisted : {z : List ℕ} → Passed z → Behind n sink (gather n sink (λ x. x ∷ [])) z
  listed : {a z : List ℕ} (l : List ℕ) → Passed a → 1 ≤ length l → has 0 l ≡ false → lists n sink l ≡ true → Passed z
      → Behind n sink l (a ++ (chunk sinks_kind (bytes_of 2 l) ++ z))

-- what a load after a save is given: the image of an accepted save, a legal tuning, and buffers that are long enough
abbrev pub Reload : State → Tuning → List ℕ → List ℕ → List ℕ → List ℕ → List ℕ → List ℕ → Type 0
Reload s t out recs slots roots list sets =
    ((saved_by s out).answer.refusal ≡ 0) × (bad_tuning t ≡ false) × Long s.control.n s.control.r recs slots roots list sets

-- a save of a heap that the calls made, and a load of its image
pub record Reloads : Type 0 where
  -- the save is accepted where there is room, and its image is that of the plain heap, with the sinks in the order of the list
  pub saves : (s : State) → Made s → (out : List ℕ) → length (plain_image (plain_of s) (listed_in s)) ≤ length out
      → ((saved_by s out).answer.refusal ≡ 0) × (image_by s out ≡ plain_image (plain_of s) (listed_in s))
  -- there is room wherever there is room for n objects of eight words, r roots and 64 sinks
  pub room : (s : State) → Made s → length (plain_image (plain_of s) (listed_in s)) ≤ 160 + 36 * s.control.n + 4 * s.control.r
  -- the image is loaded into any buffers that are long enough, with any legal tuning
  pub loads : (s : State) → Made s → (t : Tuning) (out recs slots roots list sets : List ℕ) → Reload s t out recs slots roots list sets
      → (Load.load t (image_by s out) recs slots roots list sets).answer.refusal ≡ 0
  -- and every list of later calls gets the answers that it would have had; of a later save that is its length: its bytes may have the sinks in another order
  pub same : (s : State) → Made s → (t : Tuning) (out recs slots roots list sets : List ℕ) → Reload s t out recs slots roots list sets
      → (calls : List Call) → EachLent calls (plain_of s)
      → answers_of step calls (loaded t (image_by s out) recs slots roots list sets) ≡ answers_of step calls s
  -- the loaded heap has the sinks in the same order, from the first place on
  pub sinks : (s : State) → Made s → (t : Tuning) (out recs slots roots list sets : List ℕ) → Reload s t out recs slots roots list sets
      → take sink_max (loaded t (image_by s out) recs slots roots list sets).sinks
      ≡ listed_in s ++ replicate (sink_max - length (listed_in s)) 0
  -- other chunks behind the three of the heap, and one of sinks among them or none, are accepted too, and the sinks are taken in the order that this gives
  pub passes : (s : State) → Made s → (l z : List ℕ) → Behind (plain_size (plain_of s)) (plain_sink (plain_of s)) l z
      → let b = plain_chunks (plain_of s) ++ z in (first (image_tests b) ≡ 0) × (plain_loaded b ≡ plain_of s) × (loaded_sinks b ≡ l)
  -- and nothing else is: an image that passes the tests is the chunks of the plain heap which it holds, and what may stand behind them
  pub exact : (image : List ℕ) → Octets image → first (image_tests image) ≡ 0
      → let P = plain_loaded image in (z : List ℕ) × Behind (plain_size P) (plain_sink P) (loaded_sinks image) z × (image ≡ plain_chunks P ++ z)
  -- the heap that any accepted image makes is the plain heap that the image holds
  pub holds : (t : Tuning) (image recs slots roots list sets : List ℕ) → (Load.load t image recs slots roots list sets).answer.refusal ≡ 0
      → plain_of (loaded t image recs slots roots list sets) ≡ plain_loaded image
  -- with its sinks in the first places, in the order that the image gives
  pub places : (t : Tuning) (image recs slots roots list sets : List ℕ) → (Load.load t image recs slots roots list sets).answer.refusal ≡ 0
      → take sink_max (loaded t image recs slots roots list sets).sinks ≡ loaded_sinks image ++ replicate (sink_max - length (loaded_sinks image)) 0

-- ==== tuning

-- two games make this call: the same one, or a load of the same image with another tuning, legal in both games or in neither
pub data Retuned : Call → Call → Type 0 where
  same : (call : Call) → Retuned call call
  loads : (t u : Tuning) (image recs slots roots list sets : List ℕ) → bad_tuning t ≡ bad_tuning u
      → Retuned (load t image recs slots roots list sets) (load u image recs slots roots list sets)

-- call by call, to the end of both lists
abbrev pub EachRetuned : List Call → List Call → Type 0
EachRetuned [] [] = Unit {0}
EachRetuned [] (d ∷ m) = ⊥
EachRetuned (c ∷ l) [] = ⊥
EachRetuned (c ∷ l) (d ∷ m) = Retuned c d × EachRetuned l m

-- two games end with the same answers behind them, and with the same slots and roots
pub record SameGame (calls : List Call) (s : State) (calls' : List Call) (s' : State) : Type 0 where
  pub answers : answers_of step calls s ≡ answers_of step calls' s'
  pub slots : let e = after_all step calls s in let e' = after_all step calls' s' in
      take (slots_len e.control.n) e.slots ≡ take (slots_len e'.control.n) e'.slots
  pub roots : let e = after_all step calls s in let e' = after_all step calls' s' in
      take e.control.r e.roots ≡ take e'.control.r e'.roots

-- any two legal tunings, each in buffers of its own: a game gets the same answers under both, and leaves the same slots and roots
abbrev pub SameUnderTuning : Type 0
SameUnderTuning =
    (n r : ℕ) (t u : Tuning) (recs slots roots list sets recs' slots' roots' list' sets' : List ℕ)
    → (Create.create n r t recs slots roots list sets).answer.refusal ≡ 0 → (Create.create n r u recs' slots' roots' list' sets').answer.refusal ≡ 0
    → (calls calls' : List Call) → EachRetuned calls calls' → EachLent calls (plain_created n r) → EachLent calls' (plain_created n r)
    → SameGame calls (created n r t recs slots roots list sets) calls' (created n r u recs' slots' roots' list' sets')

-- ==== the same pointer held elsewhere

-- a write, accepted or refused, changes no cluster and no write loss, and is not refused for its loss
abbrev pub Spares : State → ℕ → ℕ → ℕ → Type 0
Spares s i k w =
    ((x : ℕ) → cluster (record_after (write i k w) s x) ≡ cluster (record_in s x))
    × ((step (write i k w) s).after.control.write_loss ≡ s.control.write_loss) × (refusal_of (write i k w) s ≢ 25)

-- the writes, in any heap, that spare the clusters although they may be over a pointer into one
pub record HeldElsewhere : Type 0 where
  -- of the word that the slot has
  pub equal : (s : State) (i k : ℕ) → Spares s i k (get_or (words_of s i) k 0)
  -- of any word, where another used slot of the object holds what this one does
  pub elsewhere : (s : State) (i k q w : ℕ) → q < length (words_of s i) → q ≢ k → get_or (words_of s i) q 0 ≡ get_or (words_of s i) k 0 → Spares s i k w
