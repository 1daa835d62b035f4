-- Calls with their arguments, and what the game sees of their answers ("The plain heap").
use Rattle.std.specs.Prelude.{ℕ, List}
use Rattle.layout.specs.declared.answers.Tuning.{Tuning}
use Rattle.rules.specs.Collect.{Kind}

-- allocate and write in either form; each collection is lent work and map of its own, each analysis work of its own, each save bytes, and each load
-- the numbers of the analysis, the bytes of an image and the buffers of the heap that it makes
pub data Call : Type 0 where
  allocate : (width : ℕ) → Call
  allocate_in_place : (width : ℕ) → Call
  read : (object slot : ℕ) → Call
  show : (object : ℕ) → Call
  write : (object slot word : ℕ) → Call
  write_in_place : (object slot word : ℕ) → Call
  set_root : (index word : ℕ) → Call
  declare_sink : (object : ℕ) → Call
  collect : (kind : Kind) (work map : List ℕ) → Call
  analyse : (work : List ℕ) → Call
  save : (out : List ℕ) → Call
  load : (tuning : Tuning) (image records slots roots sinks sets : List ℕ) → Call

-- the number of a refusal, or 0, and what the call answers; of a collection freed, kept and the words of the freed map, of a save its length
pub data Answer : Type 0 where
  gave : (number object : ℕ) → Answer
  got_word : (number word : ℕ) → Answer
  got_words : (number : ℕ) (words : List ℕ) → Answer
  did : (number : ℕ) → Answer
  swept : (number freed kept : ℕ) (map : List ℕ) → Answer
  saved_as : (number length : ℕ) → Answer
