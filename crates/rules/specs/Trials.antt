-- The trials ("Trials"): calls from create on, or on buffers as they are given, and what comes of the last one, by computation.
use Rattle.std.specs.Prelude.{ℕ, zero, suc, ◌+◌, ◌*◌, List, [], ◌∷◌, ◌++◌, map, get_or, take, replicate}
use Rattle.layout.specs.Limits.{sink_max}
use Rattle.layout.specs.ControlRecord.{tuning_of, usual_tuning, new_control, control_with}
use Rattle.layout.specs.declared.answers.Tuning.{Tuning}
use Rattle.records.specs.Record.{is_sink, cluster}
use Rattle.graph.specs.Numbers.{gather}
use Rattle.rules.specs.Buffers.{rec_of, numbers}
use Rattle.rules.specs.View.{heap_in, exact_sets}
use Rattle.rules.specs.Create as Create
use Rattle.rules.specs.Allocate as Allocate
use Rattle.rules.specs.Read as Read
use Rattle.rules.specs.Show as Show
use Rattle.rules.specs.Write as Write
use Rattle.rules.specs.SetRoot as SetRoot
use Rattle.rules.specs.DeclareSink as DeclareSink
use Rattle.rules.specs.Analyse as Analyse
use Rattle.rules.specs.Collect.{plainly, by_clusters}
use Rattle.rules.specs.Collect as Collect
use Rattle.rules.specs.Save as Save
use Rattle.rules.specs.Load as Load
use Rattle.rules.specs.Calls.{Call, allocate, allocate_in_place, read, show, write, write_in_place, set_root, declare_sink, collect, analyse, save, load}
use Rattle.rules.specs.Steps.{State, created, step, after_all}

-- ---- what is told of a call

-- what the call answers, its refusal first; of a collection freed, kept, scanned and the map's first word, of an analysis clusters, members, limit and out
-- loss, of a save its length and the bytes after it, of a load n, r, last, and the buffers after it
unfoldable pub answered : Call → State → List ℕ
answered (allocate width) s =
    let a = (Allocate.allocate s.control width s.records s.slots).answer in
    a.refusal ∷ a.object ∷ []
answered (allocate_in_place width) s =
    let a = (Allocate.allocate_in_place s.control width s.records s.slots).answer in
    a.refusal ∷ a.object ∷ []
answered (read i k) s =
    let a = Read.read s.control i k s.records s.slots in
    a.refusal ∷ a.word ∷ []
answered (show i) s =
    let o = Show.show s.control i s.records s.slots in
    o.answer.refusal ∷ o.words
answered (write i k w) s = (Write.write s.control i k w s.records s.slots s.sinks s.sets).answer.refusal ∷ []
answered (write_in_place i k w) s = (Write.write_in_place s.control i k w s.records s.slots s.sinks s.sets).refusal ∷ []
answered (set_root j w) s = (SetRoot.set_root s.control j w s.records s.roots).answer.refusal ∷ []
answered (declare_sink i) s = (DeclareSink.declare_sink s.control i s.records s.slots s.roots s.sinks s.sets).answer.refusal ∷ []
answered (collect kind work map) s =
    let o = Collect.collect kind s.control s.records s.slots s.roots s.sinks s.sets work map in
    o.answer.refusal ∷ o.answer.freed ∷ o.answer.kept ∷ o.answer.scanned ∷ get_or o.map 0 0 ∷ []
answered (analyse work) s =
    let a = (Analyse.analyse s.control s.records s.slots s.roots s.sinks s.sets work).answer in
    a.refusal ∷ a.clusters ∷ a.members ∷ a.control.limit ∷ a.control.out_loss ∷ []
answered (save out) s =
    let o = Save.save s.control s.records s.slots s.roots s.sinks s.sets out in
    o.answer.refusal ∷ o.answer.length ∷ o.image
answered (load t image recs slots roots list sets) s =
    let o = Load.load t image recs slots roots list sets in
    (o.answer.refusal ∷ o.answer.control.n ∷ o.answer.control.r ∷ o.answer.control.last ∷ [])
    ++ o.records ++ o.slots ++ o.roots ++ o.sinks ++ o.sets

-- write loss, and the cluster of each object up to the last one given
unfoldable pub standing : State → List ℕ
standing s = s.control.write_loss ∷ map (λ x. cluster (rec_of s.control.n s.records x)) (numbers 1 s.control.last)

-- a state, calls made from it, a last call, and what is told of that and of the heap after it
pub record Trial : Type 0 where
  pub from : State
  pub before : List Call
  pub call : Call
  pub answers : List ℕ
  pub stands : List ℕ

-- what comes of a trial
unfoldable pub observed : Trial → List (List ℕ)
observed t =
    let s = after_all step t.before t.from in
    answered t.call s ∷ standing (step t.call s).after ∷ []

-- what should come of it
unfoldable pub expected : Trial → List (List ℕ)
expected t = t.answers ∷ t.stands ∷ []

-- ---- heaps

-- a heap just created with this tuning, in buffers one word longer than asked for, and full of ones
unfoldable pub tuned : Tuning → ℕ → ℕ → State
tuned t n r = created n r t (replicate (n + 1) 1) (replicate (8 * n + 1) 1) (replicate (r + 1) 1) (replicate (sink_max + 1) 1) (replicate (n + 1) 1)

-- with the usual one
unfoldable pub new : ℕ → ℕ → State
new n r = tuned usual_tuning n r

-- an analysis with just enough work
unfoldable pub analysis : ℕ → Call
analysis n = analyse (replicate (10 * n + 64) 1)

-- a collection by clusters with just enough work and map
unfoldable pub clustered : ℕ → Call
clustered n = collect by_clusters (replicate (10 * n + 64) 1) (1 ∷ [])

-- a plain collection
unfoldable pub plain : ℕ → Call
plain n = collect plainly (replicate (10 * n + 64) 1) (1 ∷ [])

-- heap H before its two analyses
unfoldable pub before_h : List Call
before_h =
    allocate 3 ∷ allocate 1 ∷ allocate 1 ∷ allocate 1 ∷ allocate 1 ∷ allocate 1
    ∷ write 1 0 2 ∷ write 1 1 3 ∷ write 2 0 4 ∷ write 3 0 5 ∷ write 4 0 6 ∷ set_root 0 1 ∷ []

-- heap H after both
unfoldable pub heap_h : State
heap_h = after_all step (before_h ++ (analysis 16 ∷ analysis 16 ∷ [])) (new 16 2)

-- a trial: these calls on a heap, then the last one
unfoldable pub on : State → List Call → Call → List ℕ → List ℕ → Trial
on s calls call answers stands = record { from = s; before = calls; call = call; answers = answers; stands = stands }

-- so many objects of width 8, then one of width 1
unfoldable pub wide : ℕ → List Call
wide zero = allocate 1 ∷ []
wide (suc k) = allocate 8 ∷ wide k

-- objects 1 to 4 in a chain, with ten other slots that hold 5, and more; 5 is written again before the last analysis, so that it joins nothing
unfoldable pub fan : List Call → List Call
fan more =
    wide 4 ++ (write 1 0 2 ∷ write 2 0 3 ∷ write 3 0 4 ∷ write 1 1 5 ∷ write 1 2 5 ∷ write 1 3 5 ∷ write 1 4 5 ∷ write 2 1 5 ∷ write 2 2 5 ∷ write 2 3 5
    ∷ write 3 1 5 ∷ write 3 2 5 ∷ write 4 0 5 ∷ []) ++ more ++ (set_root 0 1 ∷ analysis 24 ∷ write 5 0 0 ∷ [])

-- frames of a script: of the two slots of object 1 that hold 3 one is cleared, a collection is made, and 3 is stored there again
unfoldable pub frames : ℕ → List Call
frames zero = []
frames (suc k) = write 1 1 0 ∷ clustered 16 ∷ write 1 1 3 ∷ frames k

-- ---- the marked trials

-- the rows marked P in "Trials"; h is heap H
unfoldable pub marked : State → List Trial
marked h =
    -- the first analysis of H leaves nothing, the second has all six objects in cluster 1
    record { from = new 16 2; before = before_h; call = analysis 16; answers = 0 ∷ 0 ∷ 0 ∷ 8 ∷ 0 ∷ []; stands = 0 ∷ 0 ∷ 0 ∷ 0 ∷ 0 ∷ 0 ∷ 0 ∷ [] }
    ∷ record {
      from = new 16 2;
      before = before_h ++ (analysis 16 ∷ []);
      call = analysis 16;
      answers = 0 ∷ 1 ∷ 6 ∷ 16 ∷ 0 ∷ [];
      stands = 0 ∷ 1 ∷ 1 ∷ 1 ∷ 1 ∷ 1 ∷ 1 ∷ [];
    }
    ∷ on h [] (clustered 16) (0 ∷ 0 ∷ 6 ∷ 0 ∷ 0 ∷ []) (0 ∷ 1 ∷ 1 ∷ 1 ∷ 1 ∷ 1 ∷ 1 ∷ [])
    ∷ on h [] (plain 16) (0 ∷ 0 ∷ 6 ∷ 6 ∷ 0 ∷ []) (0 ∷ 1 ∷ 1 ∷ 1 ∷ 1 ∷ 1 ∷ 1 ∷ [])
    -- a member points at a new object
    ∷ on h (allocate 0 ∷ write 1 2 7 ∷ []) (clustered 16) (0 ∷ 0 ∷ 7 ∷ 2 ∷ 0 ∷ []) (0 ∷ 1 ∷ 1 ∷ 1 ∷ 1 ∷ 1 ∷ 1 ∷ 0 ∷ [])
    -- a pointer inside the cluster is cleared
    ∷ on h [] (write 1 0 0) (0 ∷ []) (6 ∷ 0 ∷ 0 ∷ 0 ∷ 0 ∷ 0 ∷ 0 ∷ [])
    ∷ on h (write 1 0 0 ∷ []) (clustered 16) (0 ∷ 3 ∷ 3 ∷ 3 ∷ 84 ∷ []) (6 ∷ 0 ∷ 0 ∷ 0 ∷ 0 ∷ 0 ∷ 0 ∷ [])
    -- the root leads to a member that is no head; then the head is met on the way
    ∷ on h (set_root 0 3 ∷ []) (clustered 16) (0 ∷ 4 ∷ 2 ∷ 2 ∷ 86 ∷ []) (0 ∷ 0 ∷ 0 ∷ 0 ∷ 0 ∷ 0 ∷ 0 ∷ [])
    ∷ on h (write 5 0 1 ∷ set_root 0 3 ∷ []) (clustered 16) (0 ∷ 0 ∷ 6 ∷ 2 ∷ 0 ∷ []) (0 ∷ 1 ∷ 1 ∷ 1 ∷ 1 ∷ 1 ∷ 1 ∷ [])
    -- an equal word is stored; a member becomes a sink
    ∷ on h [] (write 4 0 6) (0 ∷ []) (0 ∷ 1 ∷ 1 ∷ 1 ∷ 1 ∷ 1 ∷ 1 ∷ [])
    ∷ on h [] (declare_sink 6) (0 ∷ []) (0 ∷ 0 ∷ 0 ∷ 0 ∷ 0 ∷ 0 ∷ 0 ∷ [])
    -- four members with ten out pointers, with eleven, and three members
    ∷ record { from = new 24 2; before = fan []; call = analysis 24; answers = 0 ∷ 1 ∷ 4 ∷ 16 ∷ 0 ∷ []; stands = 0 ∷ 1 ∷ 1 ∷ 1 ∷ 1 ∷ 0 ∷ [] }
    ∷ record {
      from = new 24 2;
      before = fan (write 4 1 5 ∷ []);
      call = analysis 24;
      answers = 0 ∷ 0 ∷ 0 ∷ 16 ∷ 4 ∷ [];
      stands = 0 ∷ 0 ∷ 0 ∷ 0 ∷ 0 ∷ 0 ∷ [];
    }
    ∷ record {
      from = new 24 2;
      before = wide 2 ++ (write 1 0 2 ∷ write 2 0 3 ∷ set_root 0 1 ∷ analysis 24 ∷ []);
      call = analysis 24;
      answers = 0 ∷ 0 ∷ 0 ∷ 16 ∷ 0 ∷ [];
      stands = 0 ∷ 0 ∷ 0 ∷ 0 ∷ [];
    }
    ∷ []

-- ---- heaps given as they are

-- records, slots and one root, with nothing past their lengths, these sinks and these sets
unfoldable pub state_of : ℕ → ℕ → ℕ → List ℕ → List ℕ → ℕ → List ℕ → List ℕ → State
state_of n limit loss recs slots root list sets =
    record {
      control = control_with n limit loss 0 (new_control n 1 usual_tuning);
      records = recs;
      slots = slots;
      roots = root ∷ [];
      sinks = list;
      sets = sets;
    }

-- a list of sinks, filled up with empty places
unfoldable pub places : List ℕ → List ℕ
places l = take sink_max (l ++ replicate sink_max 0)

-- the same with the sinks listed by number, and exact sets
unfoldable pub state_with : ℕ → ℕ → ℕ → List ℕ → List ℕ → ℕ → State
state_with n limit loss recs slots root =
    let list = places (gather n (λ x. is_sink (rec_of n recs x)) (λ x. x ∷ [])) in
    state_of n limit loss recs slots root list (exact_sets (heap_in n recs slots list) (replicate n 0))

-- the eight slots of an object with one pointer
unfoldable pub one : ℕ → List ℕ
one a = a ∷ replicate 7 0

-- with two pointers
unfoldable pub two : ℕ → ℕ → List ℕ
two a b = a ∷ b ∷ replicate 6 0

-- the record of an object of this width with these flags (written 2, sink 4, out 8) and this cluster
unfoldable pub record_with : ℕ → ℕ → ℕ → ℕ
record_with width flags c = 1 + flags + 256 * width + 65536 * c

-- objects 1 and 2 are a cluster, 1 points at 2, and the write loss is n already
unfoldable pub full : State
full = state_with 2 8 2 (record_with 1 0 1 ∷ record_with 1 0 1 ∷ []) (one 2 ++ one 0) 1

-- a trial of one call
unfoldable pub fresh : State → Call → List ℕ → List ℕ → Trial
fresh s = on s []

-- ---- what the walks do, by value

-- rows of our own; h is heap H
unfoldable pub own_rows : State → List Trial
own_rows h =
    -- a chain of nine at limit 8: eight join, the ninth heads a cluster of its own, which is too small
    fresh
    (state_with 9 17 1 (replicate 9 (record_with 1 0 0)) (one 2 ++ one 3 ++ one 4 ++ one 5 ++ one 6 ++ one 7 ++ one 8 ++ one 9 ++ one 0) 1)
    (analysis 9)
    (0 ∷ 1 ∷ 8 ∷ 8 ∷ 0 ∷ [])
    (0 ∷ 1 ∷ 1 ∷ 1 ∷ 1 ∷ 1 ∷ 1 ∷ 1 ∷ 1 ∷ 0 ∷ [])
    -- slot 0 first, and all that it leads to: with slot 1 first 5 to 8 would be the second cluster
    ∷ fresh
    (state_with
    12
    17
    1
    (record_with 2 0 0 ∷ replicate 11 (record_with 1 0 0))
    (two 2 9 ++ one 3 ++ one 4 ++ one 5 ++ one 6 ++ one 7 ++ one 8 ++ one 0 ++ one 10 ++ one 11 ++ one 12 ++ one 0)
    1)
    (analysis 12)
    (0 ∷ 2 ∷ 12 ∷ 8 ∷ 0 ∷ [])
    (0 ∷ 1 ∷ 1 ∷ 1 ∷ 1 ∷ 1 ∷ 1 ∷ 1 ∷ 1 ∷ 9 ∷ 9 ∷ 9 ∷ 9 ∷ [])
    -- the root leads to a member of an older cluster that is no head: the pointers of its out member are visited
    ∷ fresh
    (state_with
    8
    8
    0
    (record_with 1 0 1 ∷ record_with 1 0 1 ∷ record_with 2 8 1 ∷ record_with 1 0 1 ∷ replicate 4 (record_with 1 0 0))
    (one 2 ++ one 3 ++ two 4 5 ++ one 0 ++ one 6 ++ one 7 ++ one 8 ++ one 0)
    2)
    (analysis 8)
    (0 ∷ 1 ∷ 4 ∷ 16 ∷ 0 ∷ [])
    (0 ∷ 1 ∷ 1 ∷ 1 ∷ 1 ∷ 5 ∷ 5 ∷ 5 ∷ 5 ∷ [])
    -- a written object and a sink among the children join nothing, and pass on no cluster
    ∷ fresh
    (state_with
    8
    8
    0
    (record_with 3 0 0 ∷ record_with 1 2 0 ∷ record_with 1 4 0 ∷ replicate 5 (record_with 1 0 0))
    ((2 ∷ 3 ∷ 4 ∷ replicate 5 0) ++ one 5 ++ one 6 ++ one 7 ++ one 0 ++ one 0 ++ one 8 ++ one 0)
    1)
    (analysis 8)
    (0 ∷ 1 ∷ 4 ∷ 16 ∷ 0 ∷ [])
    (0 ∷ 1 ∷ 0 ∷ 0 ∷ 1 ∷ 0 ∷ 0 ∷ 1 ∷ 1 ∷ [])
    -- of the postponed objects the lowest is taken: two are scanned, with the highest first it would be three
    ∷ record {
      from = new 16 2;
      before =
          allocate 5 ∷ allocate 1 ∷ allocate 1 ∷ allocate 1 ∷ allocate 1 ∷ allocate 1
          ∷ write 1 0 2 ∷ write 1 1 3 ∷ write 1 2 4 ∷ write 1 3 5 ∷ write 1 4 6 ∷ set_root 0 1 ∷ analysis 16 ∷ analysis 16
          ∷ write 4 0 2 ∷ write 2 0 1 ∷ set_root 0 4 ∷ set_root 1 6 ∷ [];
      call = clustered 16;
      answers = 0 ∷ 0 ∷ 6 ∷ 2 ∷ 0 ∷ [];
      stands = 0 ∷ 1 ∷ 1 ∷ 1 ∷ 1 ∷ 1 ∷ 1 ∷ [];
    }
    -- a plain collection that frees a head dissolves its cluster too
    ∷ on h (set_root 0 3 ∷ []) (plain 16) (0 ∷ 4 ∷ 2 ∷ 2 ∷ 86 ∷ []) (0 ∷ 0 ∷ 0 ∷ 0 ∷ 0 ∷ 0 ∷ 0 ∷ [])
    -- 1 is freed: the next object given is 3, past the last one; and with 3 the last of three, 1 is given again
    ∷ record {
      from = new 16 2;
      before = allocate 1 ∷ allocate 1 ∷ set_root 0 2 ∷ plain 16 ∷ [];
      call = allocate 1;
      answers = 0 ∷ 3 ∷ [];
      stands = 0 ∷ 0 ∷ 0 ∷ 0 ∷ [];
    }
    ∷ fresh (state_with 3 0 0 (0 ∷ replicate 2 (record_with 1 0 0)) (one 0 ++ one 3 ++ one 0) 2) (allocate 1) (0 ∷ 1 ∷ []) (0 ∷ 0 ∷ [])
    ∷ on h [] (read 1 1) (0 ∷ 3 ∷ []) (0 ∷ 1 ∷ 1 ∷ 1 ∷ 1 ∷ 1 ∷ 1 ∷ [])
    ∷ on h [] (show 1) (0 ∷ 2 ∷ 3 ∷ 0 ∷ []) (0 ∷ 1 ∷ 1 ∷ 1 ∷ 1 ∷ 1 ∷ 1 ∷ [])
    -- in place: 7 and 8 are given one after the other; a pointer inside the cluster is cleared
    ∷ on h (allocate_in_place 1 ∷ []) (allocate_in_place 1) (0 ∷ 8 ∷ []) (0 ∷ 1 ∷ 1 ∷ 1 ∷ 1 ∷ 1 ∷ 1 ∷ 0 ∷ 0 ∷ [])
    ∷ on h [] (write_in_place 1 0 0) (0 ∷ []) (6 ∷ 0 ∷ 0 ∷ 0 ∷ 0 ∷ 0 ∷ 0 ∷ [])
    -- a pointer in two slots: frame by frame the cluster stands, and a collection scans none of it; it goes with the last of the two
    ∷ on h (write 1 2 3 ∷ frames 2) (clustered 16) (0 ∷ 0 ∷ 6 ∷ 0 ∷ 0 ∷ []) (0 ∷ 1 ∷ 1 ∷ 1 ∷ 1 ∷ 1 ∷ 1 ∷ [])
    ∷ on h (write 1 2 3 ∷ write 1 1 0 ∷ []) (write 1 2 0) (0 ∷ []) (6 ∷ 0 ∷ 0 ∷ 0 ∷ 0 ∷ 0 ∷ 0 ∷ [])
    -- held by another object, or in a slot that is not used; and an equal word where there is no room for a loss
    ∷ on h (write 5 0 6 ∷ []) (write 4 0 0) (0 ∷ []) (6 ∷ 0 ∷ 0 ∷ 0 ∷ 0 ∷ 0 ∷ 0 ∷ [])
    ∷ fresh (state_with 2 8 0 (record_with 1 0 1 ∷ record_with 1 0 1 ∷ []) (two 2 2 ++ one 0) 1) (write 1 0 0) (0 ∷ []) (2 ∷ 0 ∷ 0 ∷ [])
    ∷ fresh full (write 1 0 2) (0 ∷ []) (2 ∷ 1 ∷ 1 ∷ [])
    ∷ []

-- ---- the list of sinks and the sets

-- a state, calls made from it, a last call, what it answers, the first four places of the list after it, and the set at head 1
pub record Listing : Type 0 where
  pub from : State
  pub before : List Call
  pub call : Call
  pub answers : List ℕ
  pub listed : List ℕ
  pub at_one : ℕ

-- what comes of it
unfoldable pub listed_as : Listing → List (List ℕ)
listed_as t =
    let s = after_all step t.before t.from in
    let u = (step t.call s).after in
    answered t.call s ∷ take 4 u.sinks ∷ take 1 u.sets ∷ []

-- what should come of it
unfoldable pub listed_as_given : Listing → List (List ℕ)
listed_as_given t = t.answers ∷ t.listed ∷ (t.at_one ∷ []) ∷ []

-- such a row
unfoldable pub listing : State → List Call → Call → List ℕ → List ℕ → ℕ → Listing
listing s calls call answers listed at_one = record { from = s; before = calls; call = call; answers = answers; listed = listed; at_one = at_one }

-- a world: 1 leads to 2, 3 and 4; 2 and 4 have type 5, 3 has type 6. The types are sinks, 6 in place 0 and 5 in place 1; 1 to 4 are a cluster
unfoldable pub world : State
world =
    after_all step
    (allocate 3 ∷ allocate 1 ∷ allocate 1 ∷ allocate 1 ∷ allocate 0 ∷ allocate 0
    ∷ write 1 0 2 ∷ write 1 1 3 ∷ write 1 2 4 ∷ write 2 0 5 ∷ write 3 0 6 ∷ write 4 0 5 ∷ set_root 0 1
    ∷ declare_sink 6 ∷ declare_sink 5 ∷ analysis 16 ∷ analysis 16 ∷ [])
    (new 16 2)

-- a cluster of 1 and 2 that is not connected: only 2, which nothing leads to, points at sink 3; 1 leads to 4, and 4 to 3
unfoldable pub parted : State
parted = state_with 4 8 0 (record_with 1 8 1 ∷ record_with 1 0 1 ∷ record_with 0 4 0 ∷ record_with 1 0 0 ∷ []) (one 4 ++ one 3 ++ one 0 ++ one 3) 1

-- that heap with another list, this set at head 1 and this word for 4, which heads nothing
unfoldable pub parted_with : List ℕ → ℕ → ℕ → State
parted_with list set other =
    state_of 4 8 0 (record_with 1 8 1 ∷ record_with 1 0 1 ∷ record_with 0 4 0 ∷ record_with 1 0 0 ∷ []) (one 4 ++ one 3 ++ one 0 ++ one 3) 1
    (places list) (set ∷ 0 ∷ 0 ∷ other ∷ [])

-- the rows; w is the world
unfoldable pub listing_rows : State → List Listing
listing_rows w =
    -- the types are reached through the set at head 1, and are the only ones scanned; when the world is left they are freed with it
    listing w [] (clustered 16) (0 ∷ 0 ∷ 6 ∷ 2 ∷ 0 ∷ []) (6 ∷ 5 ∷ 0 ∷ 0 ∷ []) 3
    ∷ listing w (set_root 0 0 ∷ []) (clustered 16) (0 ∷ 6 ∷ 0 ∷ 0 ∷ 126 ∷ []) (0 ∷ 0 ∷ 0 ∷ 0 ∷ []) 0
    ∷ listing w (set_root 0 0 ∷ []) (plain 16) (0 ∷ 6 ∷ 0 ∷ 0 ∷ 126 ∷ []) (0 ∷ 0 ∷ 0 ∷ 0 ∷ []) 0
    -- 2 loses its type, which 4 still has; then 4 loses it too
    ∷ listing w [] (write 2 0 0) (0 ∷ []) (6 ∷ 5 ∷ 0 ∷ 0 ∷ []) 3
    ∷ listing w (write 2 0 0 ∷ []) (write 4 0 0) (0 ∷ []) (6 ∷ 5 ∷ 0 ∷ 0 ∷ []) 1
    ∷ listing w (write 2 0 0 ∷ write 4 0 0 ∷ []) (clustered 16) (0 ∷ 1 ∷ 5 ∷ 1 ∷ 32 ∷ []) (6 ∷ 0 ∷ 0 ∷ 0 ∷ []) 1
    -- 6 is freed: its place is the first empty one, which the next sink gets
    ∷ listing w (write 3 0 0 ∷ clustered 16 ∷ allocate 0 ∷ []) (declare_sink 7) (0 ∷ []) (7 ∷ 5 ∷ 0 ∷ 0 ∷ []) 2
    -- a member points at an object that becomes a sink; a member becomes one; one becomes one again
    ∷ listing w (allocate 0 ∷ write 4 0 7 ∷ []) (declare_sink 7) (0 ∷ []) (6 ∷ 5 ∷ 7 ∷ 0 ∷ []) 7
    ∷ listing w [] (declare_sink 2) (0 ∷ []) (6 ∷ 5 ∷ 2 ∷ 0 ∷ []) 0
    ∷ listing w [] (declare_sink 5) (0 ∷ []) (6 ∷ 5 ∷ 0 ∷ 0 ∷ []) 3
    -- the cluster is dissolved: its set is empty
    ∷ listing w [] (write 1 0 0) (0 ∷ []) (6 ∷ 5 ∷ 0 ∷ 0 ∷ []) 0
    -- a plain collection frees the member that points at the sink, and its head stays; by clusters the member stays
    ∷ listing parted [] (plain 4) (0 ∷ 1 ∷ 3 ∷ 3 ∷ 4 ∷ []) (3 ∷ 0 ∷ 0 ∷ 0 ∷ []) 0
    ∷ listing parted [] (clustered 4) (0 ∷ 0 ∷ 4 ∷ 3 ∷ 0 ∷ []) (3 ∷ 0 ∷ 0 ∷ 0 ∷ []) 1
    -- in another place; twice in the list, not in it, and with a number that is no sink; a bit too many, too few, and one at a number that heads nothing
    ∷ listing (parted_with (0 ∷ 3 ∷ []) 2 0) [] (clustered 4) (0 ∷ 0 ∷ 4 ∷ 3 ∷ 0 ∷ []) (0 ∷ 3 ∷ 0 ∷ 0 ∷ []) 2
    ∷ listing (parted_with (3 ∷ 3 ∷ []) 3 0) [] (clustered 4) (21 ∷ 0 ∷ 0 ∷ 0 ∷ 1 ∷ []) (3 ∷ 3 ∷ 0 ∷ 0 ∷ []) 3
    ∷ listing (parted_with [] 0 0) [] (clustered 4) (21 ∷ 0 ∷ 0 ∷ 0 ∷ 1 ∷ []) (0 ∷ 0 ∷ 0 ∷ 0 ∷ []) 0
    ∷ listing (parted_with (3 ∷ 4 ∷ []) 3 0) [] (clustered 4) (21 ∷ 0 ∷ 0 ∷ 0 ∷ 1 ∷ []) (3 ∷ 4 ∷ 0 ∷ 0 ∷ []) 3
    ∷ listing (parted_with (3 ∷ []) 3 0) [] (clustered 4) (21 ∷ 0 ∷ 0 ∷ 0 ∷ 1 ∷ []) (3 ∷ 0 ∷ 0 ∷ 0 ∷ []) 3
    ∷ listing (parted_with (3 ∷ []) 0 0) [] (clustered 4) (21 ∷ 0 ∷ 0 ∷ 0 ∷ 1 ∷ []) (3 ∷ 0 ∷ 0 ∷ 0 ∷ []) 0
    ∷ listing (parted_with (3 ∷ []) 1 1) [] (clustered 4) (21 ∷ 0 ∷ 0 ∷ 0 ∷ 1 ∷ []) (3 ∷ 0 ∷ 0 ∷ 0 ∷ []) 1
    -- a write goes by the list as it is: a number that is listed twice has both bits, one that is listed and no sink has its bit
    ∷ listing (parted_with (3 ∷ 3 ∷ []) 0 0) [] (write 1 0 0) (0 ∷ []) (3 ∷ 3 ∷ 0 ∷ 0 ∷ []) 3
    ∷ listing (parted_with (4 ∷ []) 0 0) [] (write 2 0 3) (0 ∷ []) (4 ∷ 0 ∷ 0 ∷ 0 ∷ []) 1
    ∷ []

-- a control record out of range, and no buffers
unfoldable pub bad_controls : State
bad_controls = state_of 4096 0 0 [] [] 0 [] []

-- ---- saves and loads, byte by byte

-- object 1 points at 3 and holds an immediate, 2 is free, 3 is a sink of width 0; root 0 is 1
unfoldable pub pair : State
pair = state_with 3 0 0 (record_with 2 0 0 ∷ 0 ∷ record_with 0 4 0 ∷ []) (two 3 0x80000005 ++ one 0 ++ one 0) 1

-- its chunks ("Saves", an image byte by byte)
unfoldable pub sizes_chunk : List ℕ
sizes_chunk = 8 ∷ 0 ∷ 0 ∷ 0 ∷ 1 ∷ 0 ∷ 1 ∷ 0 ∷ 3 ∷ 0 ∷ 1 ∷ 0 ∷ 3 ∷ 0 ∷ []

-- that of kind 2, with this pointer in slot 0 of object 1
unfoldable pub objects_chunk : ℕ → List ℕ
objects_chunk w = 16 ∷ 0 ∷ 0 ∷ 0 ∷ 2 ∷ 0 ∷ 1 ∷ 0 ∷ 2 ∷ 0 ∷ w ∷ 0 ∷ 0 ∷ 0 ∷ 5 ∷ 0 ∷ 0 ∷ 0x80 ∷ 3 ∷ 0 ∷ 0 ∷ 1 ∷ []

-- that of kind 3, with this root
unfoldable pub roots_chunk : ℕ → List ℕ
roots_chunk w = 4 ∷ 0 ∷ 0 ∷ 0 ∷ 3 ∷ 0 ∷ w ∷ 0 ∷ 0 ∷ 0 ∷ []

-- an empty chunk of the kind with this high byte and this low one
unfoldable pub empty_chunk : ℕ → ℕ → List ℕ
empty_chunk high low = 0 ∷ 0 ∷ 0 ∷ 0 ∷ low ∷ high ∷ []

-- that of kind 0x8001, with this number
unfoldable pub list_chunk : ℕ → List ℕ
list_chunk y = 2 ∷ 0 ∷ 0 ∷ 0 ∷ 1 ∷ 0x80 ∷ y ∷ 0 ∷ []

-- the three chunks that an image of it must have
unfoldable pub pair_chunks : List ℕ
pair_chunks = sizes_chunk ++ objects_chunk 3 ++ roots_chunk 1

-- its image
unfoldable pub pair_image : List ℕ
pair_image = pair_chunks ++ list_chunk 3

-- a load into buffers one word longer than its heap, full of nines
unfoldable pub loading : List ℕ → Call
loading image = load usual_tuning image (replicate 4 9) (replicate 25 9) (replicate 2 9) (replicate 65 9) (replicate 4 9)

-- a load that is refused, with a control record of zeros and the buffers as they were
unfoldable pub unloaded : ℕ → List ℕ → Trial
unloaded k image = fresh pair (loading image) ((k ∷ 0 ∷ 0 ∷ 0 ∷ []) ++ replicate 100 9) (standing pair)

-- a load of its image into buffers of these lengths, one of which is too short
unfoldable pub short_load : ℕ → ℕ → ℕ → ℕ → ℕ → Trial
short_load a b c d e =
    fresh pair (load usual_tuning pair_image (replicate a 9) (replicate b 9) (replicate c 9) (replicate d 9) (replicate e 9))
    ((2 ∷ 0 ∷ 0 ∷ 0 ∷ []) ++ replicate (a + b + c + d + e) 9) (standing pair)

-- a load of an image of that heap
unfoldable pub pair_loaded : State → List ℕ → Trial
pair_loaded h image =
    on h [] (loading image)
    ((0 ∷ 3 ∷ 1 ∷ 3 ∷ 513 ∷ 0 ∷ 5 ∷ 9 ∷ 3 ∷ 0x80000005 ∷ replicate 22 0) ++ (9 ∷ 1 ∷ 9 ∷ 3 ∷ replicate 63 0) ++ (9 ∷ 0 ∷ 0 ∷ 0 ∷ 9 ∷ []))
    (0 ∷ 0 ∷ 0 ∷ 0 ∷ [])

-- saves, loads and their refusals; h is heap H
unfoldable pub image_rows : State → List Trial
image_rows h =
    -- 54 bytes, and the one past them stays
    fresh pair (save (replicate 55 9)) ((0 ∷ 54 ∷ []) ++ pair_image ++ (9 ∷ [])) (0 ∷ 0 ∷ 0 ∷ 0 ∷ [])
    -- one byte too few
    ∷ fresh pair (save (replicate 53 9)) ((2 ∷ 0 ∷ []) ++ replicate 53 9) (0 ∷ 0 ∷ 0 ∷ 0 ∷ [])
    -- 20 and 2, 2 and 21, 21 and too little space
    ∷ fresh bad_controls (save []) (20 ∷ 0 ∷ []) (standing bad_controls)
    ∷ fresh (state_with 2 0 0 (16 ∷ []) [] 0) (save []) (2 ∷ 0 ∷ []) (0 ∷ 0 ∷ 0 ∷ [])
    ∷ fresh (state_with 1 0 0 (16 ∷ []) (one 0) 0) (save []) (21 ∷ 0 ∷ []) (0 ∷ 0 ∷ [])
    -- heap H loses its cluster, and its limit with it: a first analysis has nothing left
    ∷ on h (loading pair_image ∷ []) (analysis 3) (0 ∷ 0 ∷ 0 ∷ 8 ∷ 0 ∷ []) (0 ∷ 0 ∷ 0 ∷ 0 ∷ [])
    -- the image loaded, alone, without its list, and with two chunks before the list that are passed over
    ∷ pair_loaded h pair_image
    ∷ pair_loaded h pair_chunks
    ∷ pair_loaded h (pair_chunks ++ empty_chunk 0x80 0 ++ (1 ∷ 0 ∷ 0 ∷ 0 ∷ 0xFF ∷ 0xFF ∷ 7 ∷ []) ++ list_chunk 3)
    -- a list that is empty, has half a number, names no sink, names one twice, or comes twice; a sink that is not listed
    ∷ unloaded 27 (pair_chunks ++ empty_chunk 0x80 1)
    ∷ unloaded 27 (pair_chunks ++ (1 ∷ 0 ∷ 0 ∷ 0 ∷ 1 ∷ 0x80 ∷ 3 ∷ []))
    ∷ unloaded 27 (pair_chunks ++ list_chunk 1)
    ∷ unloaded 27 (pair_chunks ++ (4 ∷ 0 ∷ 0 ∷ 0 ∷ 1 ∷ 0x80 ∷ 3 ∷ 0 ∷ 3 ∷ 0 ∷ []))
    ∷ unloaded 27 (pair_image ++ list_chunk 3)
    ∷ unloaded 27 (pair_chunks ++ list_chunk 0)
    -- the input ends before its third chunk, in a front, or in a body; the length field at its greatest
    ∷ unloaded 26 []
    ∷ unloaded 26 (sizes_chunk ++ objects_chunk 3)
    ∷ unloaded 26 (pair_image ++ (0 ∷ []))
    ∷ unloaded 26 (sizes_chunk ++ objects_chunk 3 ++ (4 ∷ 0 ∷ 0 ∷ 0 ∷ 3 ∷ 0 ∷ 1 ∷ 0 ∷ 0 ∷ []))
    ∷ unloaded 26 (pair_image ++ (0xFF ∷ 0xFF ∷ 0xFF ∷ 0xFF ∷ 0 ∷ 0x80 ∷ []))
    -- a body that breaks the layout with nothing behind it; a word and a root that name an object that is not listed
    ∷ unloaded 27 (empty_chunk 0 1)
    ∷ unloaded 27 (sizes_chunk ++ objects_chunk 2 ++ roots_chunk 1)
    ∷ unloaded 27 (sizes_chunk ++ objects_chunk 3 ++ roots_chunk 2)
    -- known kinds out of place, before the third chunk and behind it; a kind from 0x8000 up too early
    ∷ unloaded 27 (objects_chunk 3 ++ sizes_chunk ++ roots_chunk 1)
    ∷ unloaded 27 (pair_image ++ roots_chunk 1)
    ∷ unloaded 27 (sizes_chunk ++ empty_chunk 0x80 0 ++ objects_chunk 3 ++ roots_chunk 1)
    -- unknown kinds: 0, 4 and 0x7FFF; the first chunk that fails decides
    ∷ unloaded 28 (empty_chunk 0 0)
    ∷ unloaded 28 (pair_image ++ empty_chunk 0 4)
    ∷ unloaded 28 (sizes_chunk ++ empty_chunk 0x7F 0xFF)
    ∷ unloaded 27 (pair_image ++ roots_chunk 1 ++ empty_chunk 0 4)
    ∷ unloaded 28 (pair_image ++ empty_chunk 0 4 ++ roots_chunk 1)
    -- 28 and 2, and 2 alone
    ∷ fresh pair (load usual_tuning (pair_image ++ empty_chunk 0 4) [] [] [] [] []) (28 ∷ 0 ∷ 0 ∷ 0 ∷ []) (standing pair)
    ∷ short_load 2 24 1 64 3 ∷ short_load 3 23 1 64 3 ∷ short_load 3 24 0 64 3 ∷ short_load 3 24 1 63 3 ∷ short_load 3 24 1 64 2
    ∷ []

-- ---- two refusals that both hold: the first in the order is given

-- two objects with these records, where 1 points at 2
unfoldable pub small : ℕ → ℕ → State
small a b = state_with 2 0 0 (a ∷ b ∷ []) (one 2 ++ one 0) 1

-- a sound control record, and no buffers
unfoldable pub no_buffers : State
no_buffers = state_of 2 0 0 [] [] 0 [] []

-- 1 and 2 are such a cluster, and 3 is free
unfoldable pub lossy : State
lossy = state_with 3 8 2 (record_with 1 0 1 ∷ record_with 1 0 1 ∷ 0 ∷ []) (one 2 ++ one 0 ++ one 0) 1

-- a call that is refused and changes nothing
unfoldable pub refused : State → Call → List ℕ → Trial
refused s call answers = fresh s call answers (standing s)

-- an analysis that is lent no work
unfoldable pub no_work : Call
no_work = analyse []

-- one row for each pair of neighbours in a call's order that can both hold
unfoldable pub refusals : List Trial
refusals =
    -- 20 and 2
    refused bad_controls (allocate 9) (20 ∷ 0 ∷ [])
    ∷ refused bad_controls (read 0 0) (20 ∷ 0 ∷ [])
    ∷ refused bad_controls (show 0) (20 ∷ [])
    ∷ refused bad_controls (write 0 0 0) (20 ∷ [])
    ∷ refused bad_controls (set_root 9 0) (20 ∷ [])
    ∷ refused bad_controls (declare_sink 0) (20 ∷ [])
    ∷ refused bad_controls no_work (20 ∷ 0 ∷ 0 ∷ 0 ∷ 0 ∷ [])
    ∷ refused bad_controls (collect plainly [] []) (20 ∷ 0 ∷ 0 ∷ 0 ∷ 0 ∷ [])
    ∷ refused bad_controls (collect by_clusters [] []) (20 ∷ 0 ∷ 0 ∷ 0 ∷ 0 ∷ [])
    -- 2 and the test after it
    ∷ refused no_buffers (allocate 9) (2 ∷ 0 ∷ [])
    ∷ refused no_buffers (read 0 0) (2 ∷ 0 ∷ [])
    ∷ refused no_buffers (show 3) (2 ∷ [])
    ∷ refused no_buffers (write 3 0 0) (2 ∷ [])
    ∷ refused no_buffers (set_root 1 0) (2 ∷ [])
    ∷ refused no_buffers (declare_sink 0) (2 ∷ [])
    ∷ refused (small 0 0) no_work (2 ∷ 0 ∷ 0 ∷ 0 ∷ 0 ∷ [])
    ∷ refused (small 0 0) (collect plainly [] []) (2 ∷ 0 ∷ 0 ∷ 0 ∷ 0 ∷ [])
    ∷ refused (small 0 0) (collect by_clusters [] []) (2 ∷ 0 ∷ 0 ∷ 0 ∷ 0 ∷ [])
    -- allocate: 3 and 24
    ∷ refused full (allocate 9) (3 ∷ 0 ∷ [])
    -- 4 and 22; in declare sink 4 and 21, then 21 and 22
    ∷ refused (small 257 0) (read 0 0) (4 ∷ 0 ∷ [])
    ∷ refused (small 257 0) (show 3) (4 ∷ [])
    ∷ refused (small 257 0) (write 3 0 0) (4 ∷ [])
    ∷ refused (small 257 0) (declare_sink 3) (4 ∷ [])
    ∷ refused (small 257 0) (declare_sink 2) (21 ∷ [])
    ∷ refused (state_of 2 0 0 (record_with 0 0 0 ∷ 0 ∷ []) (replicate 16 0) 0 (replicate 64 0) (0 ∷ 0 ∷ [])) (declare_sink 2) (22 ∷ [])
    -- 21 and 5, 22 and 5
    ∷ refused (small 16 0) (read 1 0) (21 ∷ 0 ∷ [])
    ∷ refused (small 16 0) (write 1 0 0) (21 ∷ [])
    ∷ refused (small 16 0) (show 1) (21 ∷ [])
    ∷ refused (small 257 0) (read 2 0) (22 ∷ 0 ∷ [])
    ∷ refused (small 257 0) (write 2 0 0) (22 ∷ [])
    -- write: 5 and 6, 5 and 23, 6 and 25, 23 and 25, and 25 alone
    ∷ refused (small 257 0) (write 1 1 3) (5 ∷ [])
    ∷ refused (small 257 0) (write 1 1 2) (5 ∷ [])
    ∷ refused full (write 1 0 3) (6 ∷ [])
    ∷ refused lossy (write 1 0 3) (23 ∷ [])
    ∷ refused full (write 1 0 0) (25 ∷ [])
    -- set root: 7 and 6, 7 and 23
    ∷ refused (small 257 0) (set_root 1 0x80000000) (7 ∷ [])
    ∷ refused (small 257 0) (set_root 1 2) (7 ∷ [])
    ∷ []

-- ---- tuning

-- a state with other numbers for the analysis
unfoldable pub retuned : ℕ → ℕ → ℕ → State → State
retuned least outs lowest s =
    let c = s.control in
    record {
      control = control_with c.last c.limit c.write_loss c.out_loss (new_control c.n c.r (tuning_of least outs lowest));
      records = s.records;
      slots = s.slots;
      roots = s.roots;
      sinks = s.sinks;
      sets = s.sets;
    }

-- 1 leads to 2, and 2 to 3, with this limit and this write loss
unfoldable pub chain : ℕ → ℕ → State
chain limit loss = state_with 3 limit loss (replicate 3 (record_with 1 0 0)) (one 2 ++ one 3 ++ one 0) 1

-- a chain of three that leads to a fourth, which was written
unfoldable pub led : State
led = state_with 4 8 0 (replicate 3 (record_with 1 0 0) ++ (record_with 0 2 0 ∷ [])) (one 2 ++ one 3 ++ one 4 ++ one 0) 1

-- one object, each of whose eight slots leads to another, which was written
unfoldable pub eight_out : State
eight_out = state_with 2 8 0 (record_with 8 0 0 ∷ record_with 0 2 0 ∷ []) (replicate 8 2 ++ one 0) 1

-- a load of the small image with these numbers
unfoldable pub loading_with : ℕ → ℕ → ℕ → List ℕ → Call
loading_with least outs lowest image = load (tuning_of least outs lowest) image (replicate 3 9) (replicate 24 9) (replicate 1 9) (replicate 64 9) (replicate 3 9)

-- the rows; h is heap H
unfoldable pub tuning_rows : State → List Trial
tuning_rows h =
    -- three members where three are enough, from create on
    record {
      from = tuned (tuning_of 3 25 8) 24 2;
      before = wide 2 ++ (write 1 0 2 ∷ write 2 0 3 ∷ set_root 0 1 ∷ analysis 24 ∷ []);
      call = analysis 24;
      answers = 0 ∷ 1 ∷ 3 ∷ 16 ∷ 0 ∷ [];
      stands = 0 ∷ 1 ∷ 1 ∷ 1 ∷ [];
    }
    -- no out pointer allowed: three members without one, and with one; four for ten allow one for three, and three do not
    ∷ fresh (retuned 1 0 8 (chain 8 0)) (analysis 3) (0 ∷ 1 ∷ 3 ∷ 16 ∷ 0 ∷ []) (0 ∷ 1 ∷ 1 ∷ 1 ∷ [])
    ∷ fresh (retuned 1 0 8 led) (analysis 4) (0 ∷ 0 ∷ 0 ∷ 16 ∷ 3 ∷ []) (0 ∷ 0 ∷ 0 ∷ 0 ∷ 0 ∷ [])
    ∷ fresh (retuned 1 4 8 led) (analysis 4) (0 ∷ 1 ∷ 3 ∷ 16 ∷ 0 ∷ []) (0 ∷ 1 ∷ 1 ∷ 1 ∷ 0 ∷ [])
    ∷ fresh (retuned 1 3 8 led) (analysis 4) (0 ∷ 0 ∷ 0 ∷ 16 ∷ 3 ∷ []) (0 ∷ 0 ∷ 0 ∷ 0 ∷ 0 ∷ [])
    -- eighty for ten allow all eight of one member, and one fewer do not
    ∷ fresh (retuned 1 80 8 eight_out) (analysis 2) (0 ∷ 1 ∷ 1 ∷ 16 ∷ 0 ∷ []) (0 ∷ 1 ∷ 0 ∷ [])
    ∷ fresh (retuned 1 79 8 eight_out) (analysis 2) (0 ∷ 0 ∷ 0 ∷ 16 ∷ 1 ∷ []) (0 ∷ 0 ∷ 0 ∷ [])
    -- a limit of 1 halved is raised to the lowest, 1: each object heads a cluster of its own
    ∷ fresh (retuned 1 80 1 (chain 1 1)) (analysis 3) (0 ∷ 3 ∷ 3 ∷ 1 ∷ 0 ∷ []) (0 ∷ 1 ∷ 2 ∷ 3 ∷ [])
    -- fewer than the least where no cluster can have as many: nothing is left, and nothing is lost to out pointers
    ∷ fresh (retuned 3 80 2 (chain 4 1)) (analysis 3) (0 ∷ 0 ∷ 0 ∷ 2 ∷ 0 ∷ []) (0 ∷ 0 ∷ 0 ∷ 0 ∷ [])
    -- the highest of all three
    ∷ fresh (retuned 4095 80 4095 (chain 4095 0)) (analysis 3) (0 ∷ 0 ∷ 0 ∷ 4095 ∷ 0 ∷ []) (0 ∷ 0 ∷ 0 ∷ 0 ∷ [])
    -- a limit below the lowest, and at it; numbers past their ranges
    ∷ refused (retuned 4 25 10 (chain 8 0)) (read 1 0) (20 ∷ 0 ∷ [])
    ∷ fresh (retuned 4 25 10 (chain 10 0)) (read 1 0) (0 ∷ 2 ∷ []) (0 ∷ 0 ∷ 0 ∷ 0 ∷ [])
    ∷ refused (retuned 0 25 8 (chain 8 0)) (read 1 0) (20 ∷ 0 ∷ [])
    ∷ refused (retuned 4096 25 8 (chain 8 0)) (read 1 0) (20 ∷ 0 ∷ [])
    ∷ refused (retuned 4 81 8 (chain 8 0)) (read 1 0) (20 ∷ 0 ∷ [])
    ∷ refused (retuned 4 25 0 (chain 8 0)) (read 1 0) (20 ∷ 0 ∷ [])
    ∷ refused (retuned 4 25 4096 (chain 0 0)) (read 1 0) (20 ∷ 0 ∷ [])
    -- a load goes by its own numbers, and they are tested before its image
    ∷ on h (loading_with 1 80 5 pair_image ∷ []) (analysis 3) (0 ∷ 1 ∷ 1 ∷ 5 ∷ 0 ∷ []) (0 ∷ 1 ∷ 0 ∷ 0 ∷ [])
    ∷ fresh pair (loading_with 0 25 8 []) ((30 ∷ 0 ∷ 0 ∷ 0 ∷ []) ++ replicate 95 9) (standing pair)
    ∷ fresh pair (loading_with 4 81 8 pair_image) ((30 ∷ 0 ∷ 0 ∷ 0 ∷ []) ++ replicate 95 9) (standing pair)
    ∷ []

-- all rows; h is heap H
unfoldable pub rows : State → List Trial
rows h = marked h ++ own_rows h ++ image_rows h ++ refusals ++ tuning_rows h

-- the whole table
unfoldable pub table : List Trial
table = rows heap_h

-- the rows of the list and the sets
unfoldable pub listings : List Listing
listings = listing_rows world

-- create into buffers of no length
unfoldable pub refused_with : ℕ → ℕ → ℕ → ℕ → ℕ
refused_with n least outs lowest = (Create.create n 1 (tuning_of least outs lowest) [] [] [] [] []).answer.refusal

-- 1, 30 and 2 all hold; 30 and 2, for each number past each end of its range; and 2 alone, for the ends
unfoldable pub create_refusals : List ℕ
create_refusals =
    refused_with 0 0 81 0 ∷ refused_with 1 0 25 8 ∷ refused_with 1 4096 25 8 ∷ refused_with 1 4 81 8 ∷ refused_with 1 4 25 0 ∷ refused_with 1 4 25 4096
    ∷ refused_with 1 1 0 1 ∷ refused_with 1 4095 80 4095 ∷ []
