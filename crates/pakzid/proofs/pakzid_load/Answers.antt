-- `pakzid_load` makes a tuning of the three numbers. Assumes nothing.

use Rattle.pakzid.proofs.pakzid_load.Goals as goal

pub returns : goal.returns
returns c =
    rw c.tuning.ensures at c.load.ensures
