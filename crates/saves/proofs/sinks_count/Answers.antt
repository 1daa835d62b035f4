-- `saves::sinks_count` counts the filled places. Assumes nothing.
use Rattle.std.proofs.Common.{rules, ◌≡◌, ◌∙◌}
use Rattle.std.proofs.iter.runs.Made.{chains}
use mathlib.Core.Bool.{not}
use lib.Dec.{eqb}
use lib.ListN.{take}
use Rattle.std.specs.List.{count_by}
use Rattle.saves.proofs.SaveLaws.{pointers-count, count_most}
use native.Mathlib.Omega.{arith}
use Rattle.saves.proofs.sinks_count.Goals as goal

pub overflow_cast-result : goal.overflow_cast-result
overflow_cast-result c =
    let l = take 64 c.args.sinks.now in
    let e : c.count.result ≡ count_by (λ y. not (eqb y 0)) l = search (rules, chains) in
    omega (arith, e, pointers-count l, count_most c.args.sinks.now 64)

pub returns : goal.returns
returns c =
    let l = take 64 c.args.sinks.now in
    let e : c.count.result ≡ count_by (λ y. not (eqb y 0)) l = search (rules, chains) in
    e ∙ pointers-count l
