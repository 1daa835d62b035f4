-- `writes::write::write_refusal` meets its contract. Assumes nothing.
use native.Mathlib.Omega.{arith}
use Rattle.writes.proofs.WriteLaws.{object-named, front-slot, front-word}
use Rattle.writes.proofs.write.write_refusal.Goals as goal

pub overflow_sub-object : goal.overflow_sub-object
overflow_sub-object c = (object-named c.args.c c.args.object c.args.slot c.args.word c.args.records.now c.args.slots.now c.args.others c.in_ok-object_refusal.ensures).low

pub bounds-records-object : goal.bounds-records-object
bounds-records-object c = omega (
  arith,
  (object-named c.args.c c.args.object c.args.slot c.args.word c.args.records.now c.args.slots.now c.args.others c.in_ok-object_refusal.ensures),
)

pub returns-then-width_of-slot : goal.returns-then-width_of-slot
returns-then-width_of-slot c =
    front-slot _ _ _ _ _ _ _ c.in_ok-object_refusal.ensures _ c.width_of.ensures c.if-width_of-slot.true

pub word_refusal-requires : goal.word_refusal-requires
word_refusal-requires c = let N = (object-named c.args.c c.args.object c.args.slot c.args.word c.args.records.now c.args.slots.now c.args.others c.in_ok-object_refusal.ensures) in (N.sound.sizes.most, N.recs-long)

pub returns : goal.returns
returns c =
    front-word _ _ _ _ _ _ _ c.in_ok-object_refusal.ensures _ c.width_of.ensures c.if-width_of-slot.false _ c.word_refusal.ensures
