-- `files::look`: what it finds lies among the bytes at hand. Assumes nothing.
use Rattle.std.proofs.Common.{◌≡◌, take, arith, rules}
use Rattle.lines.specs.Word.{line_end}
use Rattle.files.proofs.ReadingLaws.{stop-from, taken-found, held_found}
use Rattle.files.proofs.look.Goals as goal

pub returns-then-end-gt-ROOM-clause-found : goal.returns-then-end-gt-ROOM-clause-found
returns-then-end-gt-ROOM-clause-found c = rw c.holding.ensures (held_found _ _ _ _ (λ e. cc) (λ e. cc) (λ k e. cc) (λ e. cc))

pub returns-then-stop-end-clause-found : goal.returns-then-stop-end-clause-found
returns-then-stop-end-clause-found c =
    let s = c.args.s in
    let l : c.line_end-stop.result ≡ line_end (take s.end c.args.input.now) s.from = search rules in
    let h = c.if-end-gt-ROOM.false in
    let m = rw l at c.if-stop-end.true in
    rw (c.found.ensures, l) (taken-found _ _ _ (stop-from _ _ _ (omega arith) m) (omega arith))

pub returns-then-saturating_sub-gt-LONGEST-clause-found : goal.returns-then-saturating_sub-gt-LONGEST-clause-found
returns-then-saturating_sub-gt-LONGEST-clause-found c =
    rw c.found-then-saturating_sub-gt-LONGEST.ensures (taken-found _ _ _ (omega arith) c.if-end-gt-ROOM.false)
