-- The rules of a well-formed heap as the check tests them: record by record and slot by slot.
use Rattle.std.specs.Prelude.{ℕ, Bool, not, ◌&&◌, ◌||◌, cond, List, [], ◌∷◌, eqb, leb}
use Rattle.std.specs.Bool.{beq}
use Rattle.layout.specs.declared.answers.Control.{Control}
use Rattle.layout.specs.ControlRecord.{bad_control}
use Rattle.layout.specs.Refusal.{Test}
use Rattle.records.specs.Record.{is_out, cluster, free, legal}
use Rattle.layout.specs.Word.{is_nil, is_immediate}
use Rattle.rules.specs.Buffers.{short_heap, rec_of, all_to}
use Rattle.table.specs.Clusters.{word_leaves}
use Rattle.rules.specs.WellFormed.{names, legal_at, empty_at, words_at, head_at, out_at, well_formed}

-- a record is 0 or legal
unfoldable pub record_ok : ℕ → ℕ → Bool
record_ok n r = free r || legal n r

-- the head of a record's cluster carries that number
unfoldable pub head_ok : ℕ → List ℕ → ℕ → Bool
head_ok n recs r = eqb (cluster r) 0 || eqb (cluster (rec_of n recs (cluster r))) (cluster r)

-- word w in slot k of an object of that width
unfoldable pub slot_ok : ℕ → List ℕ → ℕ → ℕ → ℕ → Bool
slot_ok n recs width k w = cond (leb width k) (is_nil w) (is_nil w || is_immediate w || names n recs w)

-- word w of an object in cluster c leaves it; of an object in no cluster none does
unfoldable pub member_leaves : ℕ → List ℕ → ℕ → ℕ → Bool
member_leaves n recs c w = not (eqb c 0) && word_leaves n recs c w

-- a record's out bit, where it is told whether a used word leaves the cluster
unfoldable pub out_ok : ℕ → Bool → Bool
out_ok r leaving = beq (is_out r) (not (eqb (cluster r) 0) && leaving)

-- object x keeps the rules
unfoldable pub object_ok : ℕ → List ℕ → List ℕ → ℕ → Bool
object_ok n recs slots x =
    legal_at n recs x && empty_at n recs slots x && words_at n recs slots x && head_at n recs x && out_at n recs slots x

-- every object does
unfoldable pub objects_ok : ℕ → List ℕ → List ℕ → Bool
objects_ok n recs slots = all_to n (object_ok n recs slots)

-- the tests of a call that walks the whole heap, in their order; rest: a slice besides is too short
unfoldable pub heap_tests : Control → List ℕ → List ℕ → List ℕ → List ℕ → List ℕ → Bool → List Test
heap_tests c recs slots roots list sets rest =
    (20, bad_control c) ∷ (2, short_heap c.n c.r recs slots roots list sets || rest) ∷ (21, not (well_formed c recs slots roots list sets)) ∷ []
