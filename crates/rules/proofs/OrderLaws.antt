-- The tests of the control record, both ways.
-- Assumes nothing.
use mathlib.Core.Path.{◌≡◌}
use mathlib.Core.Bool.{false}
use mathlib.Core.Logic.{◌↔◌}
use Rattle.layout.specs.declared.answers.Control.{Control}
use Rattle.layout.specs.declared.answers.Tuning.{Tuning}
use Rattle.layout.specs.ControlRecord.{bad_tuning, bad_control}
use Rattle.layout.proofs.ControlLaws.{Tuned, tuning-facts, facts-tuning, control-facts, facts-control}
use Rattle.rules.specs.Demands.{Ranges, InOrder}

ranges : {t : Tuning} → Tuned t → Ranges t
ranges T = record { least = (T.least, T.leasts); outs = T.outs; lowest = (T.lowest, T.lowests) }

tuned : {t : Tuning} → Ranges t → Tuned t
tuned R = record { least = R.least.0; leasts = R.least.1; outs = R.outs; lowest = R.lowest.0; lowests = R.lowest.1 }

pub tuning-legal : (t : Tuning) → (bad_tuning t ≡ false) ↔ Ranges t
tuning-legal t = (λ e. ranges (tuning-facts t e), λ R. facts-tuning t (tuned R))

pub control-legal : (c : Control) → (bad_control c ≡ false) ↔ InOrder c
control-legal c = (
  λ e.
      let S = control-facts c e in
      let Z = S.sizes in
      record {
        objects = (Z.some, Z.most);
        roots = (Z.root, Z.roots);
        last = S.last;
        limit = S.limit;
        losses = (S.writes, S.outs);
        tuning = ranges S.tuned;
      },
  λ O. facts-control c (record {
    sizes = record { some = O.objects.0; most = O.objects.1; root = O.roots.0; roots = O.roots.1 };
    last = O.last;
    tuned = tuned O.tuning;
    limit = O.limit;
    writes = O.losses.0;
    outs = O.losses.1;
  }),
)
