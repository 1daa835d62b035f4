-- `records::bit_at` reads one bit. Assumes nothing.
use Prim.Native.Nat.{◌%◌}
use Rattle.layout.proofs.FieldLaws.{and-flag}
use Rattle.records.proofs.bit_at.Goals as goal

pub returns : goal.returns
returns c = and-flag (c.args.p % 32) c.args.r
