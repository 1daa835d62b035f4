-- The choices of an analysis, as functions of numbers: the cluster an object gets, whether a new cluster stays, and the record that is left.
use Rattle.std.specs.Prelude.{ℕ, ◌+◌, ◌*◌, ◌%◌, Bool, true, false, not, cond, ◌&&◌, ◌||◌, eqb, ltb, leb}
use Rattle.records.specs.Record.{is_written, is_sink}
use Rattle.rules.specs.View.{encoded_record}
use Rattle.layout.specs.declared.answers.Tuning.{Tuning}

-- the cluster that an object in none gets: none where it is barred, the one passed on where that has room, else its own
unfoldable pub joined : Bool → Bool → ℕ → ℕ → ℕ
joined true room o c = 0
joined false true o c = c
joined false false o c = o

-- the cluster that object o, in none and with the record r, gets when c, of this size, is passed to it
unfoldable pub goes_by : ℕ → ℕ → ℕ → ℕ → ℕ → ℕ
goes_by limit r size o c = joined (is_written r || is_sink r) (not (eqb c 0) && leb (size + 1) limit) o c

-- s members have p out pointers: too many
unfoldable pub over_by : Tuning → ℕ → ℕ → Bool
over_by t s p = ltb (t.outs_per_ten * s) (10 * p)

-- a new cluster of s members with p out pointers stays: neither too many out pointers nor too few members
unfoldable pub lasts : Tuning → ℕ → ℕ → Bool
lasts t s p = not (over_by t s p || ltb s t.least_members)

-- what it adds to the out loss
unfoldable pub loss_by : Tuning → ℕ → ℕ → ℕ
loss_by t s p = cond (over_by t s p) s 0

-- record r of an object that is left with w: the cluster, and 4096 where it is an out member
unfoldable pub settled : ℕ → ℕ → ℕ
settled w r = encoded_record (w % 4096) (leb 4096 w) (is_sink r) false r
