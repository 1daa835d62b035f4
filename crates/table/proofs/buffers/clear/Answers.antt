-- `table::buffers::clear` clears a part from its first word on. Assumes nothing.
use mathlib.Core.Path.{sym}
use Rattle.table.proofs.ClearedLaws.{cleared-end, cleared-past, cleared-rest}
use Rattle.table.proofs.buffers.clear.Goals as goal
use Rattle.table.proofs.buffers.clear.Goals.{else-from-words-via-then-from-words+else-from-to, else-from-words-via-else-from-words}

pub returns-then-from-to : goal.returns-then-from-to
returns-then-from-to c = cleared-rest _ _ _ _ c.if-from-words.true c.zero.ensures

pub returns-else-from-words : goal.returns-else-from-words
returns-else-from-words c =
    elim c.else-from-words.branch [
      | else-from-words-via-then-from-words+else-from-to w ↦ sym (cleared-end _ _ _ w.if-from-to.false)
      | else-from-words-via-else-from-words w ↦ sym (cleared-past _ _ _ w.if-from-words.false)
    ]
