-- `writes::write::word_refusal` meets its contract: one end for each sort of word. Assumes nothing.
use mathlib.Core.Path.{sym, ◌∙◌}
use Rattle.writes.proofs.WriteLaws.{word-nil, object-low, object-there, word-object, word_none, word-immediate, word-illegal}
use Rattle.writes.proofs.write.word_refusal.Goals as goal

-- which object the word names
pub overflow_sub-x : goal.overflow_sub-x
overflow_sub-x c =
    object-low _ _ c.args.records.now c.requires.0 _ (sym c.in-Object.is ∙ c.sort_word.ensures)

pub bounds-records-x : goal.bounds-records-x
bounds-records-x c =
    object-there _ _ c.args.records.now c.requires.0 _ (sym c.in-Object.is ∙ c.sort_word.ensures) c.requires.1

pub returns-in-Nil : goal.returns-in-Nil
returns-in-Nil c = word-nil _ _ _ c.requires.0 (sym c.in-Nil.is ∙ c.sort_word.ensures)

pub returns-then-legal : goal.returns-then-legal
returns-then-legal c =
    word-object _ _ _ c.requires.0 _ (sym c.in-Object.is ∙ c.sort_word.ensures) _ c.legal.ensures c.if-legal.true

pub returns-else-legal : goal.returns-else-legal
returns-else-legal c =
    word_none _ _ _ c.requires.0 _ (sym c.in-Object.is ∙ c.sort_word.ensures) _ c.legal.ensures c.if-legal.false

pub returns-in-Immediate : goal.returns-in-Immediate
returns-in-Immediate c = word-immediate _ _ _ c.requires.0 (sym c.in-Immediate.is ∙ c.sort_word.ensures)

pub returns-in-Illegal : goal.returns-in-Illegal
returns-in-Illegal c = word-illegal _ _ _ c.requires.0 (sym c.in-Illegal.is ∙ c.sort_word.ensures)
