-- `files::fill` keeps the file, and counts a line that it finds. Assumes nothing.
use Rattle.std.proofs.Common.{arith}
use Rattle.files.proofs.ReadingLaws.{rest-found}
use Rattle.files.proofs.fill.Goals as goal

pub returns-else-kept-eq0 : goal.returns-else-kept-eq0
returns-else-kept-eq0 g c =
    rw (c.found.ensures, c.holding-in-Ok-eq0.ensures) (rest-found _ _ (omega arith))
