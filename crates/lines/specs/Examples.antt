-- Lines and what they are.
use Rattle.std.specs.Prelude.{ℕ, List, [], ◌∷◌, Option, Some, None, Result, Ok, Err}
use Prim.Native.String.{String}
use Rattle.lines.specs.declared.kinds.Kind.{Kind}
use Rattle.lines.specs.declared.kinds.Kind.TheVariants.{Wrote, Loaded, Create, Allocate, Read, Show, Write, Root, Sink, Analyse, Collect, Save, Load}
use Rattle.lines.specs.declared.kinds.Problem.{Problem}
use Rattle.lines.specs.declared.kinds.Problem.TheVariants.{NoCall, NoNumber, LargeNumber, NoEnd, NoWay, NoName}
use Rattle.lines.specs.declared.kinds.Call.{Call}
use Rattle.lines.specs.Kinds.{tuned_count}

-- a call of a kind, with up to three numbers
abbrev of : Kind → ℕ → ℕ → ℕ → ℕ → Result (Option Call) Problem
of kind count a b c = Ok (Some (record { kind = kind; count = count; numbers = a ∷ b ∷ c ∷ 0 ∷ 0 ∷ [] }))

-- a create with its sizes and the numbers of the analysis
abbrev tuned : ℕ → ℕ → ℕ → ℕ → ℕ → Result (Option Call) Problem
tuned n r least outs lowest = Ok (Some (record { kind = Create; count = tuned_count; numbers = n ∷ r ∷ least ∷ outs ∷ lowest ∷ [] }))

abbrev pub examples : List (String × Result (Option Call) Problem)
examples =
    -- each call
    ("create 16 2", of Create 2 16 2 0)
    ∷ ("allocate 3", of Allocate 1 3 0 0)
    ∷ ("read 1 0", of Read 2 1 0 0)
    ∷ ("show 7", of Show 1 7 0 0)
    ∷ ("write 1 2 3", of Write 3 1 2 3)
    ∷ ("root 0 5", of Root 2 0 5 0)
    ∷ ("sink 4", of Sink 1 4 0 0)
    ∷ ("analyse", of Analyse 0 0 0 0)
    ∷ ("collect plain", of Collect 1 0 0 0)
    ∷ ("collect clusters", of Collect 1 1 0 0)
    ∷ ("save", of Save 0 0 0 0)
    ∷ ("load", of Load 0 0 0 0)
    ∷ ("wrote heap.img", of Wrote 0 0 0 0)
    ∷ ("loaded a", of Loaded 0 0 0 0)
    -- a create with the numbers of the analysis, all three or none
    ∷ ("create 16 2 3 25 8", tuned 16 2 3 25 8)
    ∷ (" create 4095 64\t1 nil 0xfff\r", tuned 4095 64 1 0 4095)
    ∷ ("create 16 2 3 25 8# c", tuned 16 2 3 25 8)
    ∷ ("create 16 2 # 3 25 8", of Create 2 16 2 0)
    ∷ ("create 16 2 # c", of Create 2 16 2 0)
    ∷ ("create 16", Err NoNumber)
    ∷ ("create 16 x", Err NoNumber)
    ∷ ("create 16 2 3", Err NoNumber)
    ∷ ("create 16 2 3 25", Err NoNumber)
    ∷ ("create 16 2 3 25 # 8", Err NoNumber)
    ∷ ("create 16 2 x", Err NoNumber)
    ∷ ("create 16 2 3 25 x", Err NoNumber)
    ∷ ("create 16 4294967296 3", Err LargeNumber)
    ∷ ("create 16 2 3 4294967296 8", Err LargeNumber)
    ∷ ("create 16 2 3 4 5 6", Err NoEnd)
    -- a number of the table names no call
    ∷ ("2", Err NoCall)
    -- blanks and comments
    ∷ ("", Ok None)
    ∷ (" \t\r", Ok None)
    ∷ ("# write 1 2 3", Ok None)
    ∷ ("  # sink 4", Ok None)
    ∷ ("\troot\t0  5 \r", of Root 2 0 5 0)
    ∷ ("  wrote  x  ", of Wrote 0 0 0 0)
    ∷ ("sink 4 # the fourth", of Sink 1 4 0 0)
    ∷ ("sink 4# the fourth", of Sink 1 4 0 0)
    ∷ ("analyse#", of Analyse 0 0 0 0)
    -- numbers
    ∷ ("root 1 nil", of Root 2 1 0 0)
    ∷ ("sink 0x1f", of Sink 1 31 0 0)
    ∷ ("sink 0XaBcDeF", of Sink 1 0xABCDEF 0 0)
    ∷ ("sink 007", of Sink 1 7 0 0)
    ∷ ("sink 4294967295", of Sink 1 4294967295 0 0)
    ∷ ("sink 0xFFFFFFFF", of Sink 1 4294967295 0 0)
    ∷ ("sink 0x00000000012", of Sink 1 18 0 0)
    ∷ ("sink 4294967296", Err LargeNumber)
    ∷ ("sink 0x100000000", Err LargeNumber)
    ∷ ("sink 99999999999999999999999999", Err LargeNumber)
    ∷ ("sink 99999999999999999999999999z", Err NoNumber)
    -- what was expected
    ∷ ("creat 16 2", Err NoCall)
    ∷ ("creates 16 2", Err NoCall)
    ∷ ("Sink 4", Err NoCall)
    ∷ ("4 sink", Err NoCall)
    ∷ ("sink", Err NoNumber)
    ∷ ("sink # 4", Err NoNumber)
    ∷ ("write 1 2", Err NoNumber)
    ∷ ("sink 1f", Err NoNumber)
    ∷ ("sink 0x", Err NoNumber)
    ∷ ("sink 0xg", Err NoNumber)
    ∷ ("sink -1", Err NoNumber)
    ∷ ("sink nill", Err NoNumber)
    ∷ ("sink ni", Err NoNumber)
    ∷ ("sink 4 5", Err NoEnd)
    ∷ ("write 1 2 3 4 5", Err NoEnd)
    ∷ ("analyse 1", Err NoEnd)
    ∷ ("save 1", Err NoEnd)
    ∷ ("load heap.img", Err NoEnd)
    ∷ ("wrote a b", Err NoEnd)
    ∷ ("collect plain now", Err NoEnd)
    ∷ ("collect", Err NoWay)
    ∷ ("collect cluster", Err NoWay)
    ∷ ("wrote", Err NoName)
    ∷ ("loaded # x", Err NoName)
    -- the first problem decides
    ∷ ("write x 4294967296 3", Err NoNumber)
    ∷ ("write 4294967296 x", Err LargeNumber)
    ∷ ("what 4294967296", Err NoCall)
    ∷ []

-- texts of several lines, a place, and the end of the line from there
abbrev pub line_ends : List (String × ℕ × ℕ)
line_ends =
    ("ab\ncd", 0, 2)
    ∷ ("ab\ncd", 2, 2)
    ∷ ("ab\ncd", 3, 5)
    ∷ ("ab\ncd", 9, 5)
    ∷ ("\n\n", 1, 1)
    ∷ ("", 0, 0)
    ∷ []
