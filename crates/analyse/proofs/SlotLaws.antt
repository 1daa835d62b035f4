-- The slots of an object as its pointers.
-- Assumes nothing.
use Prim.Native.Nat.{ℕ, zero, suc, ◌+◌, ◌-◌, ◌*◌, ◌≤◌}
use mathlib.Core.Path.{◌≡◌, ap, ◌∙◌}
use mathlib.Core.List.{List, map}
use native.Mathlib.Omega.{arith}
use lib.ListN.{length, take, drop, length-drop, length-map}
use lib.Seq.{take-take, length-take-le}
use Rattle.records.specs.Record.{width}
use Rattle.rules.specs.Buffers.{rec_of, eight, used_words}
use Rattle.rules.specs.View.{view, target}
use Rattle.table.specs.Room.{Sized}

pub words-fit : (from k : ℕ) (slots : List ℕ) → from + k ≤ length slots → k ≤ length (drop from slots)
words-fit from k slots h = let e = length-drop from slots in omega arith

-- other work words of the same length
pub resized : {n : ℕ} {recs slots work work' : List ℕ} → Sized n recs slots work → length work' ≡ length work → Sized n recs slots work'
resized z e = record { room = z.room; work-long = omega (arith, z.work-long); widths = z.widths }

pub kids-at : (n : ℕ) (recs slots : List ℕ) (x : ℕ) → 1 ≤ x → width (rec_of n recs x) ≤ 8
    → (view n recs slots).kids x ≡ map (target n) (take (width (rec_of n recs x)) (drop (8 * (x - 1)) slots))
unfolding view used_words eight
kids-at n recs slots zero p h = absurd (omega arith)
kids-at n recs slots (suc i) p h =
    let e : suc i - 1 ≡ i = omega arith in
    rw e (ap (map (target n)) (take-take (width (rec_of n recs (suc i))) 8 (drop (8 * i) slots) h))

module _ (n : ℕ) (recs slots work : List ℕ) (z : Sized n recs slots work) (x : ℕ) (p : 1 ≤ x) (q : x ≤ n) where
  pub slots-room : 8 * (x - 1) + width (rec_of n recs x) ≤ length slots
  slots-room = omega (arith, z.room.slots-long, z.widths x)

  pub kids-length : length ((view n recs slots).kids x) ≡ width (rec_of n recs x)
  kids-length =
      let w = width (rec_of n recs x) in
      rw (kids-at n recs slots x p (z.widths x))
      (length-map (take w (drop (8 * (x - 1)) slots)) (target n)
      ∙ length-take-le w (drop (8 * (x - 1)) slots) (words-fit (8 * (x - 1)) w slots slots-room))
