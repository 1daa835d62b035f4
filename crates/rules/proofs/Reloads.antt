-- The claims on saves, proved.
-- Assumes nothing.
use Prim.Native.Nat.{ℕ, ◌-◌}
use mathlib.Core.Path.{◌≡◌, refl, sym, ap, ◌∙◌}
use mathlib.Core.Bool.{false}
use mathlib.Core.List.{List, [], ◌++◌}
use lib.ListN.{length, take, replicate}
use lib.Seq.{length-take-le}
use Rattle.layout.specs.Limits.{sink_max}
use Rattle.layout.specs.Refusal.{first}
use Rattle.layout.specs.ControlRecord.{bad_tuning}
use Rattle.layout.specs.declared.answers.Tuning.{Tuning}
use Rattle.layout.proofs.RefusalLaws.{first-fails}
use Rattle.graph.specs.Numbers.{has}
use Rattle.rules.specs.Load.{image_tests, input_tests, image_n, image_r, loaded_sinks}
use Rattle.rules.specs.Load as Load
use Rattle.rules.specs.Calls.{Call}
use Rattle.rules.specs.Plain.{Plain, plain_size, plain_sink, plain_chunks, plain_loaded}
use Rattle.rules.specs.Steps.{State, loaded, step, answers_of}
use Rattle.rules.specs.PlainOf.{plain_of}
use Rattle.rules.specs.Demands.{EachLent, Reload, saved_by, image_by, listed_in, Behind, Reloads}
use Rattle.rules.proofs.ListLaws.{length-numbers}
use Rattle.rules.proofs.ListedLaws.{Lists, pointers-nonzero}
use Rattle.rules.proofs.Invariant.{Inv}
use Rattle.rules.proofs.Abstraction.{cells-size}
use Rattle.rules.proofs.Refused.{answered}
use Rattle.rules.proofs.ReloadedLaws.{plain-reloaded, behind-passes, image-reloaded, image-passes}
use Rattle.rules.proofs.BehindLaws.{accepted-behind}
use Rattle.rules.proofs.SaveLaws.{heap-image, plain-lists, longest, save-image, save-accepted, writable}
use Rattle.rules.proofs.LoadLaws.{load-inv, load-plain, load-sinks}
use Rattle.rules.proofs.LoadTests.{load-tests}
use Rattle.rules.proofs.Calls.{made-inv}
use Rattle.rules.proofs.Demand3.{alike}

-- a heap that is the same plain heap as another answers as that does
same-answers : (calls : List Call) (s t : State) → Inv s → Inv t → plain_of t ≡ plain_of s → EachLent calls (plain_of s) → answers_of step calls t ≡ answers_of step calls s
same-answers calls s t I J e h = (alike calls t (plain_of s) J e h).answers ∙ sym (alike calls s (plain_of s) I refl h).answers

module _ (s : State) (I : Inv s) where
  -- its sinks are listed once each
  listed : Lists (plain_size (plain_of s)) (plain_sink (plain_of s)) (listed_in s)
  listed = plain-lists s I

  nonzero : has 0 (listed_in s) ≡ false
  nonzero = pointers-nonzero (take sink_max s.sinks)

  module _ (t : Tuning) (out recs slots roots list sets : List ℕ) (R : Reload s t out recs slots roots list sets) where
    e : (saved_by s out).answer.refusal ≡ 0
    e = R.0

    abbrev b : List ℕ
    b = image_by s out

    -- the image is read as the plain heap that it is of
    again : plain_loaded b ≡ plain_of s
    again = ap plain_loaded (save-image s I out e) ∙ image-reloaded (plain_of s) (writable s I) (listed_in s) listed nonzero

    passes : first (image_tests b) ≡ 0
    passes = ap (λ (i : List ℕ). first (image_tests i)) (save-image s I out e) ∙ (image-passes (plain_of s) (writable s I) (listed_in s) listed nonzero).0

    same-n : image_n b ≡ s.control.n
    unfolding plain_loaded
    same-n = sym (length-numbers _ 1 (image_n b)) ∙ ap (λ (P : Plain). length P.cells) again ∙ cells-size s.control.n s.records s.slots

    same-r : image_r b ≡ s.control.r
    unfolding plain_loaded
    same-r = sym (length-numbers _ 0 (image_r b)) ∙ ap (λ (P : Plain). length P.roots) again ∙ length-take-le s.control.r s.roots I.roots-long

    accepted : (Load.load t b recs slots roots list sets).answer.refusal ≡ 0
    unfolding Load.load input_tests
    accepted =
        answered _ _ _ (λ (o : Load.Outcome). o.answer.refusal) refl (λ k. refl)
        ∙ load-tests t b recs slots roots list sets (λ z. rw (same-n, same-r) R.2) ∙ first-fails 30 _ (bad_tuning t) R.1 ∙ passes

    answers : (calls : List Call) → EachLent calls (plain_of s) → answers_of step calls (loaded t b recs slots roots list sets) ≡ answers_of step calls s
    answers calls h =
        same-answers calls s (loaded t b recs slots roots list sets) I (load-inv t b recs slots roots list sets accepted)
        (load-plain t b recs slots roots list sets accepted ∙ again) h

    -- the sinks are listed in the same order
    ordered : take sink_max (loaded t b recs slots roots list sets).sinks ≡ listed_in s ++ replicate (sink_max - length (listed_in s)) 0
    ordered =
        load-sinks t b recs slots roots list sets accepted
        ∙ ap (λ (l : List ℕ). l ++ replicate (sink_max - length l) 0)
        (ap loaded_sinks (save-image s I out e) ∙ (image-passes (plain_of s) (writable s I) (listed_in s) listed nonzero).1)

  -- with what may stand behind its three chunks
  behind : (m z : List ℕ) → Behind (plain_size (plain_of s)) (plain_sink (plain_of s)) m z
      → let b = plain_chunks (plain_of s) ++ z in (first (image_tests b) ≡ 0) × (plain_loaded b ≡ plain_of s) × (loaded_sinks b ≡ m)
  behind m z B =
      let w = writable s I in
      let r = behind-passes (plain_of s) w z m B in
      (r.0, plain-reloaded (plain_of s) w z, r.1)

pub reloads : Reloads
reloads = record {
  saves = λ s m out h. let I = made-inv m in let e = save-accepted s I out h in (e, save-image s I out e);
  room = λ s m. rw (← heap-image s (made-inv m)) (longest s.control s.records s.slots s.roots s.sinks s.sets []);
  loads = λ s m t out recs slots roots list sets R. accepted s (made-inv m) t out recs slots roots list sets R;
  same = λ s m t out recs slots roots list sets R calls h. answers s (made-inv m) t out recs slots roots list sets R calls h;
  sinks = λ s m t out recs slots roots list sets R. ordered s (made-inv m) t out recs slots roots list sets R;
  passes = λ s m l z B. behind s (made-inv m) l z B;
  exact = accepted-behind;
  holds = load-plain;
  places = load-sinks;
}
