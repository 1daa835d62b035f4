-- Sources of lines.
-- Assumes nothing.
use Rattle.std.proofs.Common.{◌≡◌, ℕ, ◌-◌, ◌<◌, ◌≤◌, Bool, true, false, cond, ltb, leb, List, length, take, refl, ◌∙◌, arith, length-take, ltb-false}
use Rattle.lines.specs.Word.{line_end, run_end}
use Rattle.lines.specs.declared.words.Kind.TheVariants as kind
use Rattle.files.specs.declared.State.{State}
use Rattle.files.specs.declared.State.TheVariants.{More, Line, End, Long, Failed, Other}
use Rattle.files.specs.declared.Source.{Source}
use Rattle.files.specs.Reading.{longest, room, held, line_state, next_number, taken, number_after, Found}

-- a line that ends before the end of the bytes ends behind its start
pub stop-from : (l : List ℕ) (from end : ℕ) → end ≤ length l → line_end (take end l) from < end → from ≤ line_end (take end l) from
unfolding line_end run_end
stop-from l from end m = go (leb from (length (take end l))) refl
  where
    n : length (take end l) ≡ end
    n = simp length-take (omega arith)

    go : (b : Bool) → leb from (length (take end l)) ≡ b → cond b (run_end kind.Line (take end l) from) (length (take end l)) < end
        → from ≤ cond b (run_end kind.Line (take end l) from) (length (take end l))
    go true e h = omega arith
    go false e h = absurd (omega (arith, n))

pub taken-found : (s : Source) (stop next : ℕ) → s.from ≤ stop → stop ≤ room → Found s (taken s stop next)
unfolding line_state number_after
taken-found s stop next h m = go (ltb longest (stop - s.from)) refl
  where
    go : (b : Bool) → ltb longest (stop - s.from) ≡ b
        → Found s (record { fd = s.fd; from = next; end = s.end; number = next_number s.number; start = s.from; stop = stop; state = cond b Long Line })
    go true e = record { file = refl; counted = refl; line = λ z. cc; known = λ k z. cc; little = λ z. cc }
    go false e =
        record {
          file = refl;
          counted = refl;
          line = λ z. record { forward = h; inside = m; short = ltb-false _ _ e };
          known = λ k z. cc;
          little = λ z. cc;
        }

same-number : (state : State) (n : ℕ) → (state ≡ Line → ⊥) → (state ≡ Long → ⊥) → n ≡ number_after state n
unfolding number_after
same-number More n a b = refl
same-number Line n a b = absurd (a refl)
same-number End n a b = refl
same-number Long n a b = absurd (b refl)
same-number Failed n a b = refl
same-number (Other k) n a b = refl

pub held_found : (s : Source) (from end : ℕ) (state : State) → (state ≡ Line → ⊥) → (state ≡ Long → ⊥) → ((k : ℕ) → state ≡ Other k → ⊥)
    → (state ≡ More → (end ≤ room) × (end - from ≤ longest))
    → Found s (held s from end state)
held_found s from end state a b o m = record { file = refl; counted = same-number state s.number a b; line = λ e. absurd (a e); known = o; little = m }

-- only what a source has of its file and its number matters
pub found-held : (s r : Source) (from end : ℕ) (state : State) → Found (held s from end state) r → Found s r
found-held s r from end state f = record { file = f.file; counted = f.counted; line = f.line; known = f.known; little = f.little }

-- the rest of a file after its last newline
pub rest-found : (s : Source) (kept : ℕ) → kept ≤ room → Found s (taken (held s 0 kept More) kept kept)
rest-found s kept m = found-held s _ 0 kept More (taken-found (held s 0 kept More) kept kept (omega arith) m)

-- what was found after more bytes were wanted
pub found-next : (s t r : Source) → t.state ≡ More → Found s t → Found t r → Found s r
unfolding number_after
found-next s t r e f g =
    let same : t.number ≡ s.number = rw e at f.counted in
    record { file = g.file ∙ f.file; counted = rw same at g.counted; line = g.line; known = g.known; little = g.little }

pub ruleset fills = (held_found, found-held)
