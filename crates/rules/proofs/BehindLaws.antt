-- What stands behind the three chunks of an accepted image: chunks that are passed over, and one at most of sinks, which is right.
-- Assumes nothing.
use Prim.Native.Nat.{ℕ, zero, suc, ◌+◌, ◌%◌, ◌^◌, ◌≤◌, ◌<◌}
use mathlib.Core.Path.{◌≡◌, refl, sym, ap, ◌∙◌, subst}
use mathlib.Core.Bool.{Bool, true, false, not, cond}
use mathlib.Core.List.{List, [], ◌∷◌, ◌++◌, append_assoc}
use mathlib.Core.Logic.{◌≢◌, ◌⊎◌, inl, inr}
use native.Mathlib.Decide.{ℕ_discrete}
use native.Mathlib.Omega.{arith}
use lib.Dec.{eqb}
use lib.ListN.{length, length-append}
use borrow.Author.Tests.{eqb-true, eqb-false, eq-eqb, ne_eqb, le-leb, not-true, not-false}
use Rattle.layout.specs.Refusal.{first}
use Rattle.endian.specs.Bytes.{Octets, bytes_of}
use Rattle.endian.proofs.BytesLaws.{length-numbers}
use Rattle.graph.specs.Numbers.{has, gather}
use Rattle.rules.specs.WellFormed.{lists}
use Rattle.rules.specs.Image.{sinks_kind, chunk, kind_of, body_of, past, saved_as_sink, saved_list, sinks_ok}
use Rattle.rules.specs.Load.{objects, image_n, sinks_before, bad_sinks, chunk_tests, image_tests, loaded_sinks}
use Rattle.rules.specs.Plain.{Plain, is_free, cell_at, plain_size, plain_sink, plain_words, plain_chunks, plain_loaded}
use Rattle.rules.specs.Demands.{Passed, none, more, Behind, unlisted, listed}
use Rattle.rules.proofs.BoolLaws.{and_split, or_split}
use Rattle.rules.proofs.ListedLaws.{lists-facts, facts-lists, lists-same}
use Rattle.rules.proofs.ImageLaws.{past-suc, length_none, gather-same}
use Rattle.rules.proofs.WrittenLaws.{image-size}
use Rattle.rules.proofs.WrittenSinks.{before-step, read-unlisted, read-listed}
use Rattle.rules.proofs.AcceptedLaws.{Sound, Next, next, late, enough-behind, accepted-places, loaded-size, loaded-sink}
use Rattle.rules.proofs.ExactLaws.{chunk-again, body-octets, body-room, kind-room, octets-past, list-again, image-again}

-- what the body of a chunk of sinks says
record Right (n : ℕ) (sink : ℕ → Bool) (body : List ℕ) : Type 0 where
  some : length body ≢ 0
  even : length body % 2 ≡ 0
  nonzero : has 0 (saved_list body) ≡ false
  sinks : lists n sink (saved_list body) ≡ true

right-facts : (n : ℕ) (sink : ℕ → Bool) (body : List ℕ) → sinks_ok n sink body ≡ true → Right n sink body
unfolding sinks_ok
right-facts n sink body e =
    let a = and_split _ (lists n sink (saved_list body)) e in
    let c = and_split _ (not (has 0 (saved_list body))) a.0 in
    let d = and_split (not (eqb (length body) 0)) (eqb (length body % 2) 0) c.0 in
    record { some = eqb-false _ 0 (not-true _ d.0); even = eqb-true _ 0 d.1; nonzero = not-true _ c.1; sinks = a.1 }

module _ (b : List ℕ) (h : Octets b) where
  -- a chunk of sinks there, with chunks that are passed over before and behind
  record Listing (z : List ℕ) : Type 0 where
    front : List ℕ
    body : List ℕ
    rest : List ℕ
    before : Passed front
    behind : Passed rest
    octets : Octets body
    room : length body < 256 ^ 4
    right : sinks_ok (image_n b) (saved_as_sink (objects b)) body ≡ true
    parts : z ≡ front ++ (chunk sinks_kind body ++ rest)

  abbrev Tail : List ℕ → Type 0
  Tail z = Passed z ⊎ Listing z

  -- a chunk of sinks is the first, and its body is right
  sinks-right : (t : ℕ) → Sound b t → kind_of (past t b) ≡ sinks_kind
      → (length (sinks_before b t) ≡ 0) × (sinks_ok (image_n b) (saved_as_sink (objects b)) (body_of (past t b)) ≡ true)
  unfolding bad_sinks
  sinks-right t s k =
      let q = or_split (not (eqb (length (sinks_before b t)) 0)) _ (rw (eq-eqb (kind_of (past t b)) sinks_kind k) at s.listed) in
      (eqb-true _ 0 (not-false _ q.0), not-false _ q.1)

  -- a chunk, in front of what is behind it
  again : (t : ℕ) → Sound b t → past t b ≡ chunk (kind_of (past t b)) (body_of (past t b)) ++ past (suc t) b
  again t s =
      chunk-again (past t b) (octets-past t b h) s.whole ∙ ap (λ (r : List ℕ). chunk (kind_of (past t b)) (body_of (past t b)) ++ r) (sym (past-suc t b))

  -- one that is passed over, in front of such
  in-front : (t : ℕ) → 3 ≤ t → Sound b t → kind_of (past t b) ≢ sinks_kind → {z : List ℕ} → Passed z → Passed (chunk (kind_of (past t b)) (body_of (past t b)) ++ z)
  in-front t l s k q =
      let o = octets-past t b h in
      more (kind_of (past t b)) (body_of (past t b)) k (late b t l s) (kind-room (past t b) o s.whole) (body-room (past t b) o s.whole) q

  one_more : (t : ℕ) → 3 ≤ t → Sound b t → kind_of (past t b) ≢ sinks_kind → Passed (past (suc t) b) → Passed (past t b)
  one_more t l s k q = subst Passed (sym (again t s)) (in-front t l s k q)

  at-end : (t : ℕ) → length (past t b) ≡ 0 → Passed (past t b)
  at-end t e = subst Passed (sym (length_none (past t b) e)) none

  -- behind a chunk of sinks there is no other
  after : (f t : ℕ) → 3 ≤ t → length (past t b) < f → first (chunk_tests b f t) ≡ 0 → length (sinks_before b t) ≢ 0 → Passed (past t b)
  after zero t l p e i = absurd (omega arith)
  after (suc f) t l p e i = go (next b f t e) (λ s r j. after f (suc t) (omega arith) (enough-behind b f t p s) r j)
    where
      go : Next b f t → (Sound b t → first (chunk_tests b f (suc t)) ≡ 0 → length (sinks_before b (suc t)) ≢ 0 → Passed (past (suc t) b)) → Passed (past t b)
      go (inl z) r = at-end t z.0
      go (inr q) r =
          let o : kind_of (past t b) ≢ sinks_kind = λ k. i (sinks-right t q.0 k).0 in
          one_more t l q.0 o (r q.0 q.1 (λ e. i (ap length (sym (before-step b t (ne_eqb _ sinks_kind o))) ∙ e)))

  its-before : (t : ℕ) → 3 ≤ t → kind_of (past t b) ≡ sinks_kind → sinks_before b (suc t) ≡ body_of (past t b)
  unfolding sinks_before
  its-before t l k = rw (le-leb 3 t l, eq-eqb (kind_of (past t b)) sinks_kind k) refl

  tail : (f t : ℕ) → 3 ≤ t → length (past t b) < f → first (chunk_tests b f t) ≡ 0 → Tail (past t b)
  tail zero t l p e = absurd (omega arith)
  tail (suc f) t l p e = go (next b f t e) (λ s r. tail f (suc t) (omega arith) (enough-behind b f t p s) r)
    where
      longer : Sound b t → kind_of (past t b) ≢ sinks_kind → Tail (past (suc t) b) → Tail (past t b)
      longer s k (inl q) = inl (one_more t l s k q)
      longer s k (inr T) = inr (record {
        front = chunk (kind_of (past t b)) (body_of (past t b)) ++ T.front;
        body = T.body;
        rest = T.rest;
        before = in-front t l s k T.before;
        behind = T.behind;
        octets = T.octets;
        room = T.room;
        right = T.right;
        parts = again t s ∙ ap (λ (r : List ℕ). chunk (kind_of (past t b)) (body_of (past t b)) ++ r) T.parts
            ∙ sym (append_assoc (chunk (kind_of (past t b)) (body_of (past t b))) T.front _);
      })

      here : (s : Sound b t) → first (chunk_tests b f (suc t)) ≡ 0 → kind_of (past t b) ≡ sinks_kind → Listing (past t b)
      here s r k =
          let right = (sinks-right t s k).1 in
          let some = (right-facts (image_n b) (saved_as_sink (objects b)) (body_of (past t b)) right).some in
          record {
            front = [];
            body = body_of (past t b);
            rest = past (suc t) b;
            before = none;
            behind = after f (suc t) (omega arith) (enough-behind b f t p s) r (λ i. some (sym (ap length (its-before t l k)) ∙ i));
            octets = body-octets (past t b) (octets-past t b h) s.whole;
            room = body-room (past t b) (octets-past t b h) s.whole;
            right = right;
            parts = again t s ∙ ap (λ (i : ℕ). chunk i (body_of (past t b)) ++ past (suc t) b) k;
          }

      go : Next b f t → (Sound b t → first (chunk_tests b f (suc t)) ≡ 0 → Tail (past (suc t) b)) → Tail (past t b)
      go (inl z) r = inl (at-end t z.0)
      go (inr q) r = by_kind (ℕ_discrete (kind_of (past t b)) sinks_kind)
        where
          by_kind : Dec (kind_of (past t b) ≡ sinks_kind) → Tail (past t b)
          by_kind (yes k) = inr (here q.0 q.1 k)
          by_kind (no k) = longer q.0 k (r q.0 q.1)

module _ (b : List ℕ) (h : Octets b) (e : first (image_tests b) ≡ 0) where
  -- the heap that the image holds
  abbrev P : Plain
  P = plain_loaded b

  long : 3 + length (past 3 b) ≤ length b
  unfolding plain_chunks
  long =
      omega (
        arith,
        ap length (image-again b h e),
        length-append (plain_chunks P) (past 3 b),
        image-size (plain_size P) (λ x. not (is_free (cell_at P.cells x))) (plain_sink P) (plain_words P) P.last P.roots,
      )

  by_number : gather (image_n b) (saved_as_sink (objects b)) (λ x. x ∷ []) ≡ gather (plain_size P) (plain_sink P) (λ x. x ∷ [])
  by_number =
      gather-same (image_n b) (saved_as_sink (objects b)) (plain_sink P) (λ x. x ∷ []) (λ x. x ∷ [])
      (λ x p q. ap (λ (t : Bool). cond t (x ∷ []) []) (sym (loaded-sink b x (p, q))))
      ∙ ap (λ (k : ℕ). gather k (plain_sink P) (λ x. x ∷ [])) (sym (loaded-size b))

  same_lists : (l : List ℕ) → lists (image_n b) (saved_as_sink (objects b)) l ≡ true → lists (plain_size P) (plain_sink P) l ≡ true
  same_lists l q =
      rw (loaded-size b)
      (facts-lists (image_n b) (plain_sink P) l
      (lists-same (image_n b) (saved_as_sink (objects b)) (plain_sink P) l (λ x o. sym (loaded-sink b x o)) (lists-facts (image_n b) (saved_as_sink (objects b)) l q)))

  -- an accepted image is the three chunks of that heap and what may stand behind them, and its sinks are read in that order
  pub accepted-behind : (z : List ℕ) × Behind (plain_size P) (plain_sink P) (loaded_sinks b) z × (b ≡ plain_chunks P ++ z)
  accepted-behind =
      let a = (accepted-places b e).behind in
      (past 3 b, go (tail b h a.fuel 3 (omega arith) a.enough a.none), image-again b h e)
    where
      go : Tail b h (past 3 b) → Behind (plain_size P) (plain_sink P) (loaded_sinks b) (past 3 b)
      go (inl p) =
          subst (λ (l : List ℕ). Behind (plain_size P) (plain_sink P) l (past 3 b)) (sym (read-unlisted b (past 3 b) p long refl ∙ by_number)) (unlisted p)
      go (inr T) =
          let l : List ℕ = saved_list T.body in
          let r = right-facts (image_n b) (saved_as_sink (objects b)) T.body T.right in
          let again : bytes_of 2 l ≡ T.body = list-again T.body T.octets r.even in
          let some : 1 ≤ length l = omega (arith, ap length again, length-numbers 2 l, r.some) in
          let z : past 3 b ≡ T.front ++ (chunk sinks_kind (bytes_of 2 l) ++ T.rest) =
          T.parts ∙ ap (λ (c : List ℕ). T.front ++ (chunk sinks_kind c ++ T.rest)) (sym again) in
          subst (λ (m : List ℕ). Behind (plain_size P) (plain_sink P) m (past 3 b))
          (sym (read-listed b T.rest T.behind long T.front T.body T.before T.room (omega (arith, r.some)) T.parts))
          (subst (Behind (plain_size P) (plain_sink P) l) (sym z) (listed l T.before some r.nonzero (same_lists l r.sinks) T.behind))
