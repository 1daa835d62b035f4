-- The control record ("The heap"), and when it is refused.
use Rattle.std.specs.Prelude.{Bool, not, ◌||◌, ℕ, eqb, ltb}
use Rattle.layout.specs.Limits.{object_max, root_max, least_max, outs_max, limit_max, within}
use Rattle.layout.specs.declared.answers.Tuning.{Tuning}
use Rattle.layout.specs.declared.answers.Control.{Control}

-- refusal 1: the sizes are not both in range
unfoldable pub bad_sizes : ℕ → ℕ → Bool
bad_sizes n r = not (within 1 object_max n) || not (within 1 root_max r)

-- refusal 30: one of the three numbers that an analysis goes by is outside its range
unfoldable pub bad_tuning : Tuning → Bool
bad_tuning t =
    not (within 1 least_max t.least_members) || ltb outs_max t.outs_per_ten || not (within 1 limit_max t.lowest_limit)

-- a size limit that is neither 0 nor in its range, from the lowest on ("From the state")
unfoldable pub bad_limit : ℕ → ℕ → Bool
bad_limit lowest k = not (eqb k 0 || within lowest limit_max k)

-- refusal 20: a field has a value that no call leaves there
unfoldable pub bad_control : Control → Bool
bad_control c =
    bad_sizes c.n c.r || bad_tuning c.tuning || ltb c.n c.last || bad_limit c.tuning.lowest_limit c.limit
    || ltb c.n c.write_loss || ltb c.n c.out_loss

-- three numbers as a tuning
abbrev pub tuning_of : ℕ → ℕ → ℕ → Tuning
tuning_of least outs lowest = record { least_members = least; outs_per_ten = outs; lowest_limit = lowest }

-- the usual numbers: no more than a proposal to whoever creates a heap
abbrev pub usual_tuning : Tuning
usual_tuning = tuning_of 4 25 8

-- the control record of a heap just created
unfoldable pub new_control : ℕ → ℕ → Tuning → Control
new_control n r t = record { n = n; r = r; last = 0; limit = 0; write_loss = 0; out_loss = 0; tuning = t }

-- that of no heap, all zeros: what a refused create or load answers
abbrev pub no_control : Control
no_control = new_control 0 0 (tuning_of 0 0 0)

-- the control record with these for its last number given, its limit and its losses
abbrev pub control_with : ℕ → ℕ → ℕ → ℕ → Control → Control
control_with last limit writes outs c =
    record { n = c.n; r = c.r; last = last; limit = limit; write_loss = writes; out_loss = outs; tuning = c.tuning }

-- the control record with another last number ("The heap")
unfoldable pub with_last : ℕ → Control → Control
with_last i c = control_with i c.limit c.write_loss c.out_loss c

-- the control record with another write loss ("The heap")
unfoldable pub with_write_loss : ℕ → Control → Control
with_write_loss k c = control_with c.last c.limit k c.out_loss c

-- what an analysis leaves: the new limit, no write loss, the new out loss
unfoldable pub with_analysis : ℕ → ℕ → Control → Control
with_analysis limit loss c = control_with c.last limit 0 loss c
