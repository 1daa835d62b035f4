-- `saves::put_word` stores a word into a part that is lent. Assumes nothing.
use Rattle.saves.proofs.SaveLaws.{word-part}
use Rattle.saves.proofs.put_word.Goals as goal

pub returns : goal.returns
returns c =
    cc (word-part c.args.body.now c.args.at c.args.v c.requires)
