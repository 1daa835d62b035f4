-- The numbers that sizes are held to, and the lengths that follow from them ("The heap").
use Rattle.std.specs.Prelude.{Bool, ◌&&◌, ℕ, ◌+◌, ◌*◌, ◌/◌, leb}

-- the most objects of a heap ("The heap")
abbrev pub object_max : ℕ
object_max = 4095

-- the most roots of a heap ("The heap")
abbrev pub root_max : ℕ
root_max = 64

-- the slots of an object, of which its width is used
abbrev pub width_max : ℕ
width_max = 8

-- the places of the list of sinks ("The heap")
abbrev pub sink_max : ℕ
sink_max = 64

-- the most that the least members of a new cluster may be ("The control record")
abbrev pub least_max : ℕ
least_max = 4095

-- the most that the out pointers for ten members may be: eight for each
abbrev pub outs_max : ℕ
outs_max = 80

-- the highest size limit, and the most that the lowest may be ("Analysis")
abbrev pub limit_max : ℕ
limit_max = 4095

-- the slots, in words of 32 bits ("The heap")
unfoldable pub slots_len : ℕ → ℕ
slots_len n = width_max * n

-- work, in words of 32 bits ("The heap")
unfoldable pub work_len : ℕ → ℕ
work_len n = 10 * n + root_max

-- the freed map, in words of 64 bits ("The heap")
unfoldable pub map_len : ℕ → ℕ
map_len n = n / 64 + 1

-- a ≤ x ≤ b
unfoldable pub within : ℕ → ℕ → ℕ → Bool
within a b x = leb a x && leb x b
