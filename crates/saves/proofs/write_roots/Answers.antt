-- `saves::write_roots` fills the body of kind 3. Assumes nothing.
use mathlib.Core.Path.{◌∙◌}
use native.Mathlib.Omega.{arith}
use lib.ListN.{take}
use Rattle.endian.specs.Bytes.{word_bytes}
use Rattle.saves.proofs.SaveLaws.{sets-all, roots-length}
use Rattle.saves.proofs.write_roots.Goals as goal

pub returns : goal.returns
returns c =
    let a = c.args in
    c.put_words.ensures
    ∙ sets-all (word_bytes (take a.r a.roots.now)) a.body.now (omega (arith, c.requires.1, roots-length a.r a.roots.now c.requires.0))
