-- `member` meets its contract. Assumes nothing.
use Prim.Native.Nat.{◌+◌, ◌*◌}
use native.Mathlib.Omega.{arith}
use mathlib.Core.Path.{refl, ap, ◌∙◌}
use lib.ListN.{length-set}
use Rattle.records.specs.Record.{is_out}
use Rattle.analyse.proofs.SlotLaws.{resized}
use Rattle.analyse.proofs.OlderLaws.{member-room, member-out, member-plain}
use Rattle.analyse.proofs.walk.member.Goals as goal

pub record_at-requires : goal.record_at-requires
record_at-requires c = (c.requires.le_x.0, c.requires.le_x.1, c.requires.sized.room.recs-long)

pub push_kids-requires : goal.push_kids-requires
push_kids-requires c =
    record {
      sized = resized c.requires.sized (length-set c.args.work.now (9 * c.args.heap.n + c.args.x) (c.args.d + 4096));
      le_x = (c.requires.le_x.0, c.requires.le_x.1, omega arith, c.requires.le_x.3, member-room _ _ _ _ c.requires.sized _ c.requires.le_x.0 c.requires.le_x.1 c.args.d _ _ (c.is_out.ensures ∙ ap is_out c.record_at.ensures) c.if-is_out.true c.requires.le_x.4);
    }

pub returns-then-is_out : goal.returns-then-is_out
returns-then-is_out c =
    member-out _ _ _ _ c.requires.sized _ c.requires.le_x.0 c.requires.le_x.1 _ _ _ (c.is_out.ensures ∙ ap is_out c.record_at.ensures) _ refl c.if-is_out.true _ _ c.push_kids.ensures.0 c.push_kids.ensures.1

pub returns : goal.returns
returns c =
    member-plain _ _ _ _ c.requires.sized _ c.requires.le_x.0 c.requires.le_x.1 _ _ _ (c.is_out.ensures ∙ ap is_out c.record_at.ensures) _ refl c.if-is_out.false
