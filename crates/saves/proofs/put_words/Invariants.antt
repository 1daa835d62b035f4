-- `saves::put_words` stores words, four bytes each. Invariant: the words passed are stored. Assumes nothing.
use mathlib.Core.Path.{◌≡◌}
use lib.ListN.{take}
use lib.Seq.{sets}
use Rattle.endian.specs.Bytes.{word_bytes}
use Rattle.saves.proofs.put_words.Given as goal

abbrev pub invariant-loop-j : goal.invariant-loop-j
invariant-loop-j l = l.body ≡ sets l.initial.body l.at (word_bytes (take l.j l.words))
