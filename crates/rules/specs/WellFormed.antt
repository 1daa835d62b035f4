-- The rules of a well-formed heap ("The heap"), each a test over the objects 1 to n or over the roots. Refusal 21 of a whole heap: one is broken.
use Rattle.std.specs.Prelude.{ℕ, Bool, true, not, ◌&&◌, ◌||◌, List, [], ◌∷◌, eqb, leb, take}
use Rattle.std.specs.Bool.{beq}
use Rattle.layout.specs.declared.answers.Control.{Control}
use Rattle.layout.specs.Limits.{object_max, sink_max}
use Rattle.records.specs.Record.{in_use, is_sink, cluster, free, legal}
use Rattle.layout.specs.Word.{is_nil, is_pointer, is_immediate}
use Rattle.graph.specs.Numbers.{has}
use Rattle.rules.specs.Buffers.{short_heap, rec_of, used_words, other_words, all_of, all_to}
use Rattle.rules.specs.View.{view, heap_in, set_word, exact_out}

-- the word names an object in use
unfoldable pub names : ℕ → List ℕ → ℕ → Bool
names n recs w = is_pointer n w && in_use (rec_of n recs w)

-- the record of x is 0 or legal
unfoldable pub legal_at : ℕ → List ℕ → ℕ → Bool
legal_at n recs x = free (rec_of n recs x) || legal n (rec_of n recs x)

-- the object that its cluster number names carries that number too
unfoldable pub head_at : ℕ → List ℕ → ℕ → Bool
head_at n recs x = let c = cluster (rec_of n recs x) in eqb c 0 || eqb (cluster (rec_of n recs c)) c

module _ (n : ℕ) (recs slots : List ℕ) where
  -- the unused slots are 0; a free object has width 0, so all its slots are
  unfoldable pub empty_at : ℕ → Bool
  empty_at x = all_of is_nil (other_words n recs slots x)

  -- the used slots are nil, immediates, or name objects in use
  unfoldable pub words_at : ℕ → Bool
  words_at x = all_of (λ w. is_nil w || is_immediate w || names n recs w) (used_words n recs slots x)

  -- the out bit is exact
  unfoldable pub out_at : ℕ → Bool
  out_at x = beq ((view n recs slots).out x) (exact_out (view n recs slots) x)

-- a root is nil or names an object in use
unfoldable pub roots_named : ℕ → ℕ → List ℕ → List ℕ → Bool
roots_named n r recs roots = all_of (λ w. is_nil w || names n recs w) (take r roots)

-- no number is in the list twice; 0 is none
unfoldable pub once : List ℕ → Bool
once [] = true
once (y ∷ l) = (is_nil y || not (has y l)) && once l

-- the list has every sink of 1 to n once and no other number; 0 is an empty place
unfoldable pub lists : ℕ → (ℕ → Bool) → List ℕ → Bool
lists n sink l = all_of (λ y. is_nil y || (is_pointer n y && sink y)) l && all_to n (λ x. not (sink x) || has x l) && once l

-- the 64 places have the sinks
unfoldable pub list_ok : ℕ → List ℕ → List ℕ → Bool
list_ok n recs list = lists n (λ x. is_sink (rec_of n recs x)) (take sink_max list)

-- every set is exact
unfoldable pub sets_ok : ℕ → List ℕ → List ℕ → List ℕ → List ℕ → Bool
sets_ok n recs slots list sets = all_to n (λ h. eqb (rec_of n sets h) (set_word (heap_in n recs slots list) h))

-- the rules of the objects and of the roots, of n objects and r roots
unfoldable pub formed : ℕ → ℕ → List ℕ → List ℕ → List ℕ → Bool
formed n r recs slots roots =
    all_to n (legal_at n recs) && all_to n (empty_at n recs slots) && all_to n (words_at n recs slots)
    && all_to n (head_at n recs) && all_to n (out_at n recs slots) && roots_named n r recs roots

-- all rules together: what the heap of a control record has to be
unfoldable pub well_formed : Control → List ℕ → List ℕ → List ℕ → List ℕ → List ℕ → Bool
well_formed c recs slots roots list sets =
    formed c.n c.r recs slots roots && list_ok c.n recs list && sets_ok c.n recs slots list sets

-- what the check answers for any slices: none is too short, n is a size, and the heap is well formed
unfoldable pub checked : Control → List ℕ → List ℕ → List ℕ → List ℕ → List ℕ → Bool
checked c recs slots roots list sets =
    leb c.n object_max && not (short_heap c.n c.r recs slots roots list sets) && well_formed c recs slots roots list sets
