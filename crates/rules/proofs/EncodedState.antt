-- A good heap encoded into the records of a state: the invariant holds after it, and the plain heap's cells are of the words that stand in the slots.
-- Assumes nothing.
use Prim.Native.Nat.{ℕ, ◌*◌, ◌≤◌, ◌<◌, ◌^◌}
use mathlib.Core.Path.{◌≡◌, refl, sym, ap, ◌∙◌, subst}
use mathlib.Core.Bool.{Bool, true, false, cond, ◌&&◌, ◌||◌, true≢false}
use mathlib.Core.List.{List, map, Memᴰ}
use mathlib.Core.Logic.{◌⊎◌, inl, inr}
use native.Mathlib.Decide.{ℕ_discrete}
use native.Mathlib.Omega.{arith}
use lib.ListN.{length, take, drop}
use Rattle.layout.specs.Limits.{sink_max}
use Rattle.records.specs.Record as R
use Rattle.layout.specs.Word.{is_nil, is_immediate, is_pointer}
use Rattle.layout.specs.declared.answers.Control.{Control}
use Rattle.layout.specs.ControlRecord.{control_with}
use Rattle.records.proofs.RecordLaws.{Legal}
use Rattle.layout.proofs.ControlLaws.{Sound}
use Rattle.graph.specs.Heap.{Heap}
use Rattle.graph.proofs.OutLaws.{out_bit-none}
use Rattle.graph.proofs.Paths.{connected-head}
use Rattle.graph.proofs.State.{Good}
use Rattle.rules.specs.Buffers.{rec_of, each_record, used_words, other_words, eight, all_of}
use Rattle.rules.specs.View.{encoded, target, view, listing, heap_in, set_word}
use Rattle.rules.specs.WellFormed.{names, once}
use Rattle.rules.specs.Plain.{vacant, object}
use Rattle.rules.specs.Steps.{State}
use Rattle.rules.specs.Demands.{record_in}
use Rattle.rules.specs.PlainOf.{cell_of}
use Rattle.rules.proofs.ListLaws.{length-each}
use Rattle.rules.proofs.EncodedLaws.{Fits, width-stays, used-stays, zero-stays, legal-stays, free_stays, words-stay, sink-back, view-back}
use Rattle.rules.proofs.Invariant.{Inv, SlotWord}

-- a good heap fits the records, if it has no bit where the record is 0
pub good-fits : {n : ℕ} {recs : List ℕ} {kids : ℕ → List ℕ} {sink written out : ℕ → Bool} {listed : List ℕ} {cl : ℕ → ℕ} {loss : ℕ}
    → Good (record { n = n; kids = kids; sink = sink; listed = listed; written = written; cluster = cl; out = out }) loss
    → ((x : ℕ) → rec_of n recs x ≡ 0 → (sink x ≡ false) × (written x ≡ false) × (cl x ≡ 0)) → Fits n recs sink written out cl
good-fits {n = n} {kids = kids} {sink = sink} {out = out} {cl = cl} G blank = record {
  low = λ x. low x (ℕ_discrete (cl x) 0);
  blank = λ x e. let b = blank x e in (b.0, b.1, b.2, no-out x b.2);
  alone = G.sinks;
  member = λ x o z. true≢false (sym o ∙ no-out x z);
}
  where
    low : (x : ℕ) → Dec (cl x ≡ 0) → cl x ≤ n
    low x (yes e) = omega arith
    low x (no e) = G.range (cl x) (λ z. e (sym (connected-head kids cl G.conn x e) ∙ z))

    no-out : (x : ℕ) → cl x ≡ 0 → out x ≡ false
    no-out x e = G.exact x ∙ out_bit-none kids sink cl x e

module _ (s : State) (I : Inv s) (kids' : ℕ → List ℕ) (listed' : List ℕ) {sink' written' out' : ℕ → Bool} {cl' : ℕ → ℕ}
    (F : Fits s.control.n s.records sink' written' out' cl') (slots' : List ℕ) where
  abbrev heap' : Heap
  heap' = record { n = s.control.n; kids = kids'; sink = sink'; listed = listed'; written = written'; cluster = cl'; out = out' }

  abbrev recs' : List ℕ
  recs' = encoded heap' s.records

  most : s.control.n < 2 ^ 12
  most = let b = I.sound.sizes.most in omega arith

  pub encoded-cell : (x : ℕ) → cell_of s.control.n recs' slots' x
      ≡ cond (R.free (record_in s x)) vacant (object (used_words s.control.n s.records slots' x) (sink' x))
  unfolding cell_of
  encoded-cell x =
      rw (free_stays I.recs-long most kids' listed' F x (I.legal x), words-stay I.recs-long most kids' listed' F slots' x, sink-back I.recs-long most kids' listed' F x) refl

  module _ (same-kids : (x : ℕ) → map (target s.control.n) (used_words s.control.n s.records slots' x) ≡ kids' x) where
    pub encoded-view : listing listed' (view s.control.n recs' slots') ≡ heap'
    encoded-view = view-back I.recs-long most kids' listed' F slots' same-kids

    names_at : (w : ℕ) → names s.control.n recs' w ≡ names s.control.n s.records w
    unfolding names
    names_at w = ap (λ (b : Bool). is_pointer s.control.n w && b) (used-stays I.recs-long most kids' listed' F w)

    other_at : (x : ℕ) → other_words s.control.n recs' slots' x ≡ other_words s.control.n s.records slots' x
    unfolding other_words
    other_at x = ap (λ (k : ℕ). drop k (eight slots' x)) (width-stays I.recs-long most kids' listed' F x)

    legal-at : (x : ℕ) → (record_in s x ≡ 0) ⊎ Legal s.control.n (record_in s x)
        → (rec_of s.control.n recs' x ≡ 0) ⊎ Legal s.control.n (rec_of s.control.n recs' x)
    legal-at x (inl e) = inl (zero-stays I.recs-long most kids' listed' F x e)
    legal-at x (inr L) = inr (legal-stays I.recs-long most kids' listed' F x L)

    module _ (sinks' sets' : List ℕ) (last' limit' loss' out_loss' : ℕ) where
      abbrev control' : Control
      control' = control_with last' limit' loss' out_loss' s.control

      pub encoded-inv : Good heap' loss' → Sound control' → 8 * s.control.n ≤ length slots'
          → ((x : ℕ) → 1 ≤ x → x ≤ s.control.n → all_of is_nil (other_words s.control.n s.records slots' x) ≡ true)
          → ((x w : ℕ) → Memᴰ w (used_words s.control.n s.records slots' x) → SlotWord s.control.n s.records w)
          → sink_max ≤ length sinks' → take sink_max sinks' ≡ listed' → once listed' ≡ true → s.control.n ≤ length sets'
          → ((h : ℕ) → 1 ≤ h → h ≤ s.control.n → rec_of s.control.n sets' h ≡ set_word heap' h)
          → Inv (record { control = control'; records = recs'; slots = slots'; roots = s.roots; sinks = sinks'; sets = sets' })
      unfolding encoded each_record
      encoded-inv G R long empty named sinks-long same-list single sets-long exact = record {
        sound = R;
        recs-long = rw (length-each 1 s.control.n _ s.records) I.recs-long;
        slots-long = long;
        roots-long = I.roots-long;
        sinks-long = sinks-long;
        sets-long = sets-long;
        legal = λ x. legal-at x (I.legal x);
        empty = λ x p q. ap (all_of is_nil) (other_at x) ∙ empty x p q;
        named = λ x w m.
            ap (λ (b : Bool). is_nil w || is_immediate w || b) (names_at w)
            ∙ named x w (subst (λ (l : List ℕ). Memᴰ w l) (words-stay I.recs-long most kids' listed' F slots' x) m);
        rooted = λ w m. ap (λ (b : Bool). is_nil w || b) (names_at w) ∙ I.rooted w m;
        single = ap once same-list ∙ single;
        sets-exact = λ h p q. exact h p q ∙ ap (λ (H : Heap). set_word H h) (sym back);
        good = subst (λ (H : Heap). Good H loss') (sym back) G;
      }
        where
          back : heap_in s.control.n recs' slots' sinks' ≡ heap'
          back = ap (λ (l : List ℕ). listing l (view s.control.n recs' slots')) same-list ∙ encoded-view
