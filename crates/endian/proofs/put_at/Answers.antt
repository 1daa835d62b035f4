-- `endian::put_at` stores the bytes that have a place. Assumes nothing.
use mathlib.Core.Path.{sym}
use native.Mathlib.Omega.{arith}
use Rattle.endian.proofs.BytesLaws.{sets-past, put-whole, put-few}
use Rattle.endian.proofs.put_at.Goals as goal

pub returns-then-out-i : goal.returns-then-out-i
returns-then-out-i g c = let a = c.args in sym (sets-past a.value a.out.now a.i (omega arith))

pub returns-in-Some : goal.returns-in-Some
returns-in-Some g c = let a = c.args in put-whole a.out.now a.value a.i c.if-out-i.false g.row.K (omega arith) c.in-Some.ensures.cases.enough

pub returns-in_default : goal.returns-in_default
returns-in_default g c = let a = c.args in put-few a.out.now a.value a.i c.if-out-i.false g.row.K (omega arith) c.in_default.ensures.cases c.put_near_end.new.out c.put_near_end.ensures
