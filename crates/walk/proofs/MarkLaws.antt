-- The flags in the records: what a store of one changes, and that nothing of the heap is in them.
-- Assumes nothing.
use Prim.Native.Nat.{ℕ, zero, suc, ◌-◌, ◌≤◌, ◌<◌}
use mathlib.Core.Path.{◌≡◌, refl, sym, ap, ◌∙◌, fun_ext}
use mathlib.Core.Logic.{◌≢◌}
use mathlib.Core.Bool.{Bool, true, false, true≢false}
use mathlib.Core.List.{List, [], ◌∷◌, map}
use native.Mathlib.Decide.{ℕ_discrete, dec_le}
use native.Mathlib.Omega.{arith}
use borrow.Author.Tests.{eqb-false}
use lib.ListN.{length, get_or, set, take, drop, length-set}
use Rattle.layout.specs.Field.{flag, put_flag, field}
use Rattle.records.specs.Record.{is_sink, is_out, width, cluster, with_marked, with_postponed, with_reached}
use Rattle.layout.proofs.FieldLaws.{flag-put-same, flag-put-other, flag-put-put, flags-comm, flag_same, flag-stays}
use Rattle.records.proofs.RecordLaws.{width-put-flag}
use Rattle.graph.specs.Numbers.{Obj, upd}
use Rattle.graph.specs.Trace.{Flag, marked, postponed, reached, Flags, Flag-discrete, set_flag, no_flags}
use Rattle.graph.proofs.NumberLaws.{upd_same, upd_other}
use Rattle.graph.proofs.FlagLaws.{set_flag-same, set_flag-other, set_flag-apart}
use Rattle.rules.specs.Buffers.{rec_of, eight, used_words, each_from, each_record}
use Rattle.rules.specs.View.{target, view}
use Rattle.rules.proofs.ListLaws.{length-each, drop_past, rec_of-above}
use Rattle.rules.proofs.PlaceLaws.{rec-put, by-object}
use Rattle.rules.proofs.BufferLaws.{rec_of-get}
use Rattle.sweep.specs.Sweep.{unflagged_record, unflagged}
use Rattle.sweep.proofs.UnflaggedLaws.{unflagged-cluster, rec-unflagged}
use Rattle.walk.specs.Marks.{bit_of, flags_of, put_mark, flagged}

bits-apart : (f g : Flag) → f ≢ g → bit_of f ≢ bit_of g
bits-apart marked marked h = absurd (h refl)
bits-apart marked postponed h = eqb-false 4 5 refl
bits-apart marked reached h = eqb-false 4 6 refl
bits-apart postponed marked h = eqb-false 5 4 refl
bits-apart postponed postponed h = absurd (h refl)
bits-apart postponed reached h = eqb-false 5 6 refl
bits-apart reached marked h = eqb-false 6 4 refl
bits-apart reached postponed h = eqb-false 6 5 refl
bits-apart reached reached h = absurd (h refl)

-- ---- one record without its flags

module _ (r : ℕ) where
  -- whatever a store of one of the flags leaves as it is
  unflagged-keeps : {A : Type 0} (read : ℕ → A) → ((f : Flag) (s : ℕ) → read (put_flag (bit_of f) false s) ≡ read s) → read (unflagged_record r) ≡ read r
  unfolding unflagged_record
  unflagged-keeps read h = h reached _ ∙ h postponed _ ∙ h marked r

  unflagged-low : (q : ℕ) → q ≤ 3 → flag q (unflagged_record r) ≡ flag q r
  unflagged-low q h = unflagged-keeps (flag q) (λ f s. flag-put-other (bit_of f) false s q (go f))
    where
      go : (f : Flag) → bit_of f ≢ q
      go marked e = omega arith
      go postponed e = omega arith
      go reached e = omega arith

  pub unflagged-width : width (unflagged_record r) ≡ width r
  unflagged-width = unflagged-keeps width go
    where
      go : (f : Flag) (s : ℕ) → width (put_flag (bit_of f) false s) ≡ width s
      go marked s = width-put-flag 4 false s refl
      go postponed s = width-put-flag 5 false s refl
      go reached s = width-put-flag 6 false s refl

  -- a store of one of the flags is not seen
  pub unflagged-put-word : (f : Flag) (b : Bool) → unflagged_record (put_flag (bit_of f) b r) ≡ unflagged_record r
  unfolding unflagged_record
  unflagged-put-word marked b = ap (λ (x : ℕ). with_reached false (with_postponed false x)) (flag-put-put 4 b false r)
  unflagged-put-word postponed b =
      ap (λ (x : ℕ). with_reached false (with_postponed false x)) (flags-comm 4 false r 5 (eqb-false 4 5 refl) b)
      ∙ ap (with_reached false) (flag-put-put 5 b false (with_marked false r))
  unflagged-put-word reached b =
      ap (λ (x : ℕ). with_reached false (with_postponed false x)) (flags-comm 4 false r 6 (eqb-false 4 6 refl) b)
      ∙ ap (with_reached false) (flags-comm 5 false (with_marked false r) 6 (eqb-false 5 6 refl) b)
      ∙ flag-put-put 6 b false (with_postponed false (with_marked false r))

  -- a record whose flags are clear
  pub unflagged-clear : ((f : Flag) → flag (bit_of f) r ≡ false) → unflagged_record r ≡ r
  unfolding unflagged_record
  unflagged-clear h =
      ap (λ (x : ℕ). with_reached false (with_postponed false x)) (flag-stays 4 false r (h marked))
      ∙ ap (with_reached false) (flag-stays 5 false r (h postponed))
      ∙ flag-stays 6 false r (h reached)

  -- and one without its flags has none
  pub clear-unflagged : (f : Flag) → flag (bit_of f) (unflagged_record r) ≡ false
  unfolding unflagged_record
  clear-unflagged marked =
      flag-put-other 6 false (with_postponed false (with_marked false r)) 4 (eqb-false 6 4 refl)
      ∙ flag-put-other 5 false (with_marked false r) 4 (eqb-false 5 4 refl)
      ∙ flag-put-same 4 false r
  clear-unflagged postponed =
      flag-put-other 6 false (with_postponed false (with_marked false r)) 5 (eqb-false 6 5 refl)
      ∙ flag-put-same 5 false (with_marked false r)
  clear-unflagged reached = flag-put-same 6 false (with_postponed false (with_marked false r))

  -- its flags put back
  flags-back : with_reached (flag 6 r) (with_postponed (flag 5 r) (with_marked (flag 4 r) (unflagged_record r))) ≡ r
  unfolding unflagged_record
  flags-back =
      ap (λ (x : ℕ). with_reached (flag 6 r) (with_postponed (flag 5 r) x))
      (flags-comm 4 (flag 4 r) (with_postponed false (with_marked false r)) 6 (eqb-false 4 6 refl) false
      ∙ ap (with_reached false) (flags-comm 4 (flag 4 r) (with_marked false r) 5 (eqb-false 4 5 refl) false ∙ ap (with_postponed false) (flag-put-put 4 false (flag 4 r) r ∙ flag_same 4 r)))
      ∙ ap (with_reached (flag 6 r))
      (flags-comm 5 (flag 5 r) (with_postponed false r) 6 (eqb-false 5 6 refl) false ∙ ap (with_reached false) (flag-put-put 5 false (flag 5 r) r ∙ flag_same 5 r))
      ∙ flag-put-put 6 false (flag 6 r) r ∙ flag_same 6 r

pub no_flag : (f : Flag) → flag (bit_of f) 0 ≡ false
unfolding flag field
no_flag marked = refl
no_flag postponed = refl
no_flag reached = refl

-- ---- the records without their flags

pub length-unflagged : (n : ℕ) (recs : List ℕ) → length (unflagged n recs) ≡ length recs
unfolding unflagged each_record
length-unflagged n recs = length-each 1 n (λ x r. unflagged_record r) recs

pub length-same : (n : ℕ) (recs recs' : List ℕ) → unflagged n recs' ≡ unflagged n recs → length recs' ≡ length recs
length-same n recs recs' e = sym (length-unflagged n recs') ∙ ap length e ∙ length-unflagged n recs

module _ (n : ℕ) (recs recs' : List ℕ) (long : n ≤ length recs) (e : unflagged n recs' ≡ unflagged n recs) where
  pub rec-same : (x : ℕ) → unflagged_record (rec_of n recs' x) ≡ unflagged_record (rec_of n recs x)
  rec-same x =
      sym (rec-unflagged n recs' (omega (arith, length-same n recs recs' e)) x) ∙ ap (λ (l : List ℕ). rec_of n l x) e ∙ rec-unflagged n recs long x

  pub width_same : (x : ℕ) → width (rec_of n recs' x) ≡ width (rec_of n recs x)
  width_same x = sym (unflagged-width (rec_of n recs' x)) ∙ ap width (rec-same x) ∙ unflagged-width (rec_of n recs x)

  pub cluster-same : (x : ℕ) → cluster (rec_of n recs' x) ≡ cluster (rec_of n recs x)
  cluster-same x = sym (unflagged-cluster (rec_of n recs' x)) ∙ ap cluster (rec-same x) ∙ unflagged-cluster (rec_of n recs x)

  low_same : (q : ℕ) → q ≤ 3 → (x : ℕ) → flag q (rec_of n recs' x) ≡ flag q (rec_of n recs x)
  low_same q h x = sym (unflagged-low (rec_of n recs' x) q h) ∙ ap (flag q) (rec-same x) ∙ unflagged-low (rec_of n recs x) q h

  pub out-same : (x : ℕ) → is_out (rec_of n recs' x) ≡ is_out (rec_of n recs x)
  out-same = low_same 3 (omega arith)

  sink-same : (x : ℕ) → is_sink (rec_of n recs' x) ≡ is_sink (rec_of n recs x)
  sink-same = low_same 2 (omega arith)

  -- the heap is the same
  pub view-same : (slots : List ℕ) → view n recs' slots ≡ view n recs slots
  unfolding view used_words
  view-same slots =
      λ i.
      record {
        n = n;
        kids = λ x. map (target n) (take (width_same x i) (eight slots x));
        sink = λ x. sink-same x i;
        listed = [];
        written = λ x. low_same 1 (omega arith) x i;
        cluster = λ x. cluster-same x i;
        out = λ x. out-same x i;
      }

-- ---- one flag stored

module _ (n : ℕ) (recs : List ℕ) (f : Flag) (o : ℕ) (b : Bool) (long : n ≤ length recs) (io : Obj n o) where
  abbrev new : ℕ
  new = put_flag (bit_of f) b (rec_of n recs o)

  put_is : put_mark f o b recs ≡ set recs (o - 1) new
  put_is = ap (λ (r : ℕ). set recs (o - 1) (put_flag (bit_of f) b r)) (sym (rec_of-get n recs o io.0 io.1))

  pub length-mark : length (put_mark f o b recs) ≡ length recs
  length-mark = ap length put_is ∙ length-set recs (o - 1) new

  rec-mark : (x : ℕ) → rec_of n (put_mark f o b recs) x ≡ upd (rec_of n recs) o new x
  rec-mark x = ap (λ (l : List ℕ). rec_of n l x) put_is ∙ rec-put n recs o new io.0 io.1 long x

  -- the flags are those of the definition
  pub flags-put : flags_of n (put_mark f o b recs) ≡ set_flag (flags_of n recs) f o b
  unfolding flags_of
  flags-put = fun_ext (λ g. fun_ext (λ x. go g x (ℕ_discrete x o) (Flag-discrete f g)))
    where
      go : (g : Flag) (x : ℕ) → Dec (x ≡ o) → Dec (f ≡ g) → flags_of n (put_mark f o b recs) g x ≡ set_flag (flags_of n recs) f o b g x
      go g x (yes e) (yes q) =
          rw (e, ← q)
          (ap (flag (bit_of f)) (rec-mark o ∙ upd_same (rec_of n recs) o new) ∙ flag-put-same (bit_of f) b (rec_of n recs o)
          ∙ sym (set_flag-same (flags_of n recs) f o b))
      go g x (yes e) (no ne) =
          rw e
          (ap (flag (bit_of g)) (rec-mark o ∙ upd_same (rec_of n recs) o new)
          ∙ flag-put-other (bit_of f) b (rec_of n recs o) (bit_of g) (bits-apart f g ne)
          ∙ sym (set_flag-apart (flags_of n recs) f o b g o ne))
      go g x (no ne) d =
          ap (flag (bit_of g)) (rec-mark x ∙ upd_other (rec_of n recs) o x new ne) ∙ sym (set_flag-other (flags_of n recs) f o b g x ne)

-- a change at one place that f does not see
each-put : (i k : ℕ) (f : ℕ → ℕ) (l : List ℕ) (j v : ℕ) → j < k → f v ≡ f (get_or l j 0) → each_from i k (λ x r. f r) (set l j v) ≡ each_from i k (λ x r. f r) l
unfolding each_from
each-put i zero f l j v p e = absurd (omega arith)
each-put i (suc k) f [] zero v p e = refl
each-put i (suc k) f [] (suc j) v p e = refl
each-put i (suc k) f (w ∷ l) zero v p e = ap (λ (y : ℕ). y ∷ each_from (suc i) k (λ x r. f r) l) e
each-put i (suc k) f (w ∷ l) (suc j) v p e = ap (λ (m : List ℕ). f w ∷ m) (each-put (suc i) k f l j v (omega arith) e)

-- nothing else changes
pub unflagged-put : (n : ℕ) (recs : List ℕ) (f : Flag) (o : ℕ) (b : Bool) → Obj n o → unflagged n (put_mark f o b recs) ≡ unflagged n recs
unfolding unflagged each_record
unflagged-put n recs f o b io = each-put 1 n unflagged_record recs (o - 1) _ (omega arith) (unflagged-put-word (get_or recs (o - 1) 0) f b)

-- where nothing is marked
pub unflagged-flags : (n : ℕ) (recs : List ℕ) → n ≤ length recs → unflagged n recs ≡ recs → flags_of n recs ≡ no_flags
unfolding flags_of no_flags
unflagged-flags n recs long e = fun_ext (λ f. fun_ext (λ x. go f x))
  where
    go : (f : Flag) (x : ℕ) → flags_of n recs f x ≡ no_flags f x
    go f x = ap (flag (bit_of f)) (sym (ap (λ (l : List ℕ). rec_of n l x) e) ∙ rec-unflagged n recs long x) ∙ clear-unflagged (rec_of n recs x) f

-- a flag stands at an object
pub flag-object : (n : ℕ) (recs : List ℕ) (f : Flag) (x : ℕ) → flags_of n recs f x ≡ true → Obj n x
unfolding flags_of rec_of
flag-object n recs f x e = go x e (dec_le x n)
  where
    go : (x : ℕ) → flags_of n recs f x ≡ true → Dec (x ≤ n) → Obj n x
    go zero q d = absurd (true≢false (sym q ∙ no_flag f))
    go (suc i) q (yes l) = (omega arith, l)
    go (suc i) q (no g) = absurd (true≢false (sym q ∙ ap (flag (bit_of f)) (rec_of-above n recs (suc i) (omega (arith, g))) ∙ no_flag f))

-- records that have these flags, and are others without them
pub flagged-is : (n : ℕ) (recs recs' : List ℕ) (flags : Flags) → n ≤ length recs → unflagged n recs' ≡ recs → flags_of n recs' ≡ flags → recs' ≡ flagged n flags recs
unfolding flagged unflagged each_record flags_of
flagged-is n recs recs' flags long e h = by-object n _ recs recs' size long rest word
  where
    size : length recs' ≡ length recs
    size = sym (length-unflagged n recs') ∙ ap length e

    rest : drop n recs' ≡ drop n recs
    rest = sym (drop_past 1 n (λ x r. unflagged_record r) recs') ∙ ap (drop n) e

    word : (x : ℕ) → 1 ≤ x → x ≤ n → rec_of n recs' x ≡ with_reached (flags reached x) (with_postponed (flags postponed x) (with_marked (flags marked x) (rec_of n recs x)))
    word x p q =
        sym (flags-back (rec_of n recs' x))
        ∙ ap (λ (w : ℕ). with_reached (flag 6 (rec_of n recs' x)) (with_postponed (flag 5 (rec_of n recs' x)) (with_marked (flag 4 (rec_of n recs' x)) w)))
        (sym (rec-unflagged n recs' (omega (arith, size)) x) ∙ ap (λ (l : List ℕ). rec_of n l x) e)
        ∙ ap (λ (f : Flags). with_reached (f reached x) (with_postponed (f postponed x) (with_marked (f marked x) (rec_of n recs x)))) h
