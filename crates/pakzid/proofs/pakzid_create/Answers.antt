-- `pakzid_create` makes a tuning of the three numbers. Assumes nothing.

use Rattle.pakzid.proofs.pakzid_create.Goals as goal

pub returns : goal.returns
returns c =
    rw c.tuning.ensures at c.create.ensures
