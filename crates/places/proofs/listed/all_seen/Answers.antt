-- `places::listed::all_seen` asks object by object. Assumes nothing.
use Rattle.std.proofs.Common.{◌∙◌, refl, arith, rules, ◌+◌}
use mathlib.Core.Bool.{not, ◌||◌}
use Rattle.std.proofs.lemmas.Iterator.{YieldsList-from_range}
use Rattle.std.proofs.lemmas.Iterator.Search.{all_from_yields_List}
use Rattle.records.specs.Record.{is_sink}
use Rattle.bitmap.specs.Bits.{holds}
use Rattle.rules.specs.Buffers.{rec_of}
use Rattle.places.proofs.SeenLaws.{range-all}
use Rattle.places.proofs.listed.all_seen.Goals as goal

pub returns : goal.returns
returns c =
    let n = c.args.n in
    all_from_yields_List (λ i. not (is_sink (rec_of n c.args.records.now (i + 1))) || holds (i + 1) c.args.seen.now) _ _ c.all.result c.all.ensures.ran (YieldsList-from_range 0 n n refl (omega arith)) (λ i b q k. search rules)
    ∙ range-all n (λ x. not (is_sink (rec_of n c.args.records.now x)) || holds x c.args.seen.now)
