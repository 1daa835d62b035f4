-- When two heaps have the same survivors.
use Rattle.std.specs.Prelude.{ℕ, zero, suc, Bool, true, ◌&&◌, ◌||◌, List, eqb, leb, get_or}
use Rattle.std.specs.Bool.{beq}
use Rattle.layout.specs.Limits.{slots_len}
use Rattle.records.specs.Record.{width, is_sink}
use Rattle.compare.specs.Answers.{same_part}

-- both free or neither, of the same width, and both sinks or neither
unfoldable pub same_record : ℕ → ℕ → Bool
same_record x y = beq (eqb x 0) (eqb y 0) && eqb (width x) (width y) && beq (is_sink x) (is_sink y)

-- object i + 1: its record, and its eight slots unless it is free
unfoldable pub same_object : ℕ → List ℕ → List ℕ → List ℕ → List ℕ → Bool
same_object i rec1 slot1 rec2 slot2 =
    same_record (get_or rec1 i 0) (get_or rec2 i 0) && (eqb (get_or rec1 i 0) 0 || same_part slot1 slot2 (slots_len i) (slots_len i) 8)

-- root j of heaps of r1 and r2 roots: neither has it, or both with the same word
unfoldable pub same_root : ℕ → ℕ → List ℕ → ℕ → List ℕ → Bool
same_root j r1 root1 r2 root2 = beq (leb r1 j) (leb r2 j) && (leb r1 j || eqb (get_or root1 j 0) (get_or root2 j 0))

-- p of the n numbers from i on
unfoldable pub every : (ℕ → Bool) → ℕ → ℕ → Bool
every p i zero = true
every p i (suc n) = p i && every p (suc i) n

-- the objects from i + 1 on, n of them
abbrev pub same_objects : List ℕ → List ℕ → List ℕ → List ℕ → ℕ → ℕ → Bool
same_objects rec1 slot1 rec2 slot2 = every (λ i. same_object i rec1 slot1 rec2 slot2)

-- the roots from j on, n of them
abbrev pub same_roots : ℕ → List ℕ → ℕ → List ℕ → ℕ → ℕ → Bool
same_roots r1 root1 r2 root2 = every (λ j. same_root j r1 root1 r2 root2)
