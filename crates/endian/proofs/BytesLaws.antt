-- Numbers written as bytes and read again, and bytes read as numbers and written again.
-- Assumes nothing.
use Prim.Native.Nat.{ℕ, zero, suc, ◌+◌, ◌-◌, ◌*◌, ◌/◌, ◌%◌, ◌^◌, ◌≤◌, ◌<◌, min}
use mathlib.Core.Path.{◌≡◌, refl, sym, ap, ap₂, subst, ◌∙◌}
use mathlib.Core.List.Memᴰ
use mathlib.Core.List.{List, [], ◌∷◌, ◌++◌, append_assoc, append-nil, Memᴰ}
use mathlib.Core.Bool.{Bool, true, false}
use mathlib.Core.Logic.{◌⊎◌}
use native.Mathlib.Nat.{pow-succ', sub-zero}
use native.Mathlib.Numerals.{add-one}
use native.Mathlib.Decide.{dec_lt, dec_le}
use native.Mathlib.Omega.{arith}
use lib.ListN.{length, get_or, set, take, drop, replicate, length-append, length-drop, length-replicate, length-set, take-append-drop, drop_of_length-le}
use lib.Dec.{leb}
use lib.Seq.{take_at, take_all, take-nil, set_at, drop-append-add, drop-drop, drop-nil, length-take-le, take-suc-set, sets, sets-eq, set_out}
use borrow.Author.Tests.{leb-true, leb-false, le-leb, lt-leb}
use borrow.Rule.Slice.PartMut.{put_mid}
use denote.Ref.{Bor}
use Rattle.std.specs.Prelude.{Option, Some, None}
use Rattle.std.specs.Option.{unwrap_or}
use Rattle.std.specs.Slice.{IsGetRangeResult}
use Rattle.std.proofs.lemmas.List.{take_more, drop_more}
use Rattle.endian.specs.Bytes.{Octets, bytes, number, number_at, bytes_of}

pub length-bytes : (k v : ℕ) → length (bytes k v) ≡ k
unfolding bytes
length-bytes zero v = refl
length-bytes (suc k) v = ap suc (length-bytes k (v / 256))

pub number-bytes : (k v : ℕ) → v < 256 ^ k → number (bytes k v) ≡ v
unfolding bytes number
number-bytes zero v h = omega arith
number-bytes (suc k) v h =
    let p = pow-succ' 256 k in
    let r = number-bytes k (v / 256) (omega arith) in
    omega arith

-- a number in front of other bytes
pub number-front : (k v : ℕ) (l : List ℕ) → v < 256 ^ k → number_at k 0 (bytes k v ++ l) ≡ v
unfolding number_at
number-front k v l h = ap number (take_at (bytes k v) l k (length-bytes k v)) ∙ number-bytes k v h

-- a number behind other bytes
pub number_behind : (k i : ℕ) (a l : List ℕ) → number_at k (length a + i) (a ++ l) ≡ number_at k i l
unfolding number_at
number_behind k i a l = ap (λ (m : List ℕ). number (take k m)) (drop-append-add a l i)

-- ---- reading byte by byte

-- the lowest byte, and the rest
pub number_step : (k i : ℕ) (l : List ℕ) → number_at (suc k) i l ≡ get_or l i 0 + 256 * number_at k (suc i) l
unfolding number_at number
number_step k i [] = rw (drop-nil i, take-nil k) refl
number_step k zero (x ∷ l) = refl
number_step k (suc i) (x ∷ l) = number_step k i l

-- the same, where the next place is known only by what stands there
next-step : (k i j : ℕ) (l : List ℕ) → drop j l ≡ drop (i + 1) l → get_or l i 0 + 256 * number_at k j l ≡ number_at (suc k) i l
unfolding number_at
next-step k i j l e =
    ap (λ (m : List ℕ). get_or l i 0 + 256 * number (take k m)) (e ∙ ap (λ (m : ℕ). drop m l) (add-one i)) ∙ sym (number_step k i l)

last_step : (i : ℕ) (l : List ℕ) → number (get_or l i 0 ∷ []) ≡ number_at 1 i l
unfolding number number_at
last_step i l = sym (number_step 0 i l)

pub number-at-two : (l : List ℕ) (i j : ℕ) → drop j l ≡ drop (i + 1) l → number (get_or l i 0 ∷ get_or l j 0 ∷ []) ≡ number_at 2 i l
unfolding number
number-at-two l i j e = ap (λ (m : ℕ). get_or l i 0 + 256 * m) (last_step j l) ∙ next-step 1 i j l e

pub number-at-four : (l : List ℕ) (i j k m : ℕ) → drop j l ≡ drop (i + 1) l → drop k l ≡ drop (j + 1) l → drop m l ≡ drop (k + 1) l
    → number (get_or l i 0 ∷ get_or l j 0 ∷ get_or l k 0 ∷ get_or l m 0 ∷ []) ≡ number_at 4 i l
unfolding number
number-at-four l i j k m e f g =
    ap (λ (x : ℕ). get_or l i 0 + 256 * (get_or l j 0 + 256 * x)) (number-at-two l k m g)
    ∙ ap (λ (x : ℕ). get_or l i 0 + 256 * x) (next-step 2 j k l f) ∙ next-step 3 i j l e

pub number-at-next-four : (l : List ℕ) (i : ℕ) → number (get_or l i 0 ∷ get_or l (i + 1) 0 ∷ get_or l (i + 2) 0 ∷ get_or l (i + 3) 0 ∷ []) ≡ number_at 4 i l
number-at-next-four l i =
    let a : i + 2 ≡ i + 1 + 1 = omega arith in
    let b : i + 3 ≡ i + 2 + 1 = omega arith in
    number-at-four l i (i + 1) (i + 2) (i + 3) refl (ap (λ (m : ℕ). drop m l) a) (ap (λ (m : ℕ). drop m l) b)

-- ---- the test whether bytes are there

pub fits-leb : (i k n : ℕ) → k ≤ n → leb i (n - k) ≡ leb (i + k) n
fits-leb i k n h = go (leb i (n - k)) refl
  where
    go : (t : Bool) → leb i (n - k) ≡ t → t ≡ leb (i + k) n
    go true e = let a = leb-true i (n - k) e in sym (le-leb (i + k) n (omega arith))
    go false e = let a = leb-false i (n - k) e in sym (lt-leb (i + k) n (omega arith))

pub length-numbers : (k : ℕ) (l : List ℕ) → length (bytes_of k l) ≡ k * length l
unfolding bytes_of
length-numbers k [] = omega arith
length-numbers k (v ∷ l) = length-append (bytes k v) (bytes_of k l) ∙ omega (arith, length-bytes k v, length-numbers k l)

-- number j of numbers in front of other bytes
pub number-at : (k : ℕ) (l z : List ℕ) (j : ℕ) → ((v : ℕ) → Memᴰ v l → v < 256 ^ k) → j < length l
    → number_at k (k * j) (bytes_of k l ++ z) ≡ get_or l j 0
unfolding bytes_of
number-at k [] z j h p = absurd (omega arith)
number-at k (v ∷ l) z zero h p =
    let e : k * 0 ≡ 0 = omega arith in
    ap₂ (number_at k) e (append_assoc (bytes k v) (bytes_of k l) z) ∙ number-front k v (bytes_of k l ++ z) (h v (Memᴰ.head refl))
number-at k (v ∷ l) z (suc j) h p =
    let e : k * suc j ≡ length (bytes k v) + k * j = omega (arith, length-bytes k v) in
    ap (number_at k (k * suc j)) (append_assoc (bytes k v) (bytes_of k l) z)
    ∙ ap (λ (i : ℕ). number_at k i (bytes k v ++ (bytes_of k l ++ z))) e
    ∙ number_behind k (k * j) (bytes k v) (bytes_of k l ++ z)
    ∙ number-at k l z j (λ u m. h u (Memᴰ.tail m)) (omega arith)

-- ---- bytes read and written again

pub octets-take : (k : ℕ) (l : List ℕ) → Octets l → Octets (take k l)
octets-take k l h v m = h v (subst (λ (r : List ℕ). Memᴰ v r) (take-append-drop k l) (Memᴰ.append_left (drop k l) m))

pub octets-drop : (k : ℕ) (l : List ℕ) → Octets l → Octets (drop k l)
octets-drop k l h v m = h v (subst (λ (r : List ℕ). Memᴰ v r) (take-append-drop k l) (Memᴰ.append_right (take k l) m))

number_bound : (l : List ℕ) → Octets l → number l < 256 ^ length l
unfolding number
number_bound [] h = omega arith
number_bound (b ∷ l) h =
    let p = pow-succ' 256 (length l) in
    let q = h b (Memᴰ.head refl) in
    let r = number_bound l (λ v m. h v (Memᴰ.tail m)) in
    omega arith

bytes-number : (l : List ℕ) → Octets l → bytes (length l) (number l) ≡ l
unfolding bytes number
bytes-number [] h = refl
bytes-number (b ∷ l) h =
    let q = h b (Memᴰ.head refl) in
    let low : (b + 256 * number l) % 256 ≡ b = omega arith in
    let high : (b + 256 * number l) / 256 ≡ number l = omega arith in
    ap₂ (λ (x : ℕ) (r : List ℕ). x ∷ r) low (ap (bytes (length l)) high ∙ bytes-number l (λ v m. h v (Memᴰ.tail m)))

module _ (k i : ℕ) (l : List ℕ) (h : Octets l) (p : i + k ≤ length l) where
  abbrev part : List ℕ
  part = take k (drop i l)

  part_length : length part ≡ k
  part_length = length-take-le k (drop i l) (omega (arith, length-drop i l))

  octets-part : Octets part
  octets-part = octets-take k (drop i l) (octets-drop i l h)

  -- the number at i, written again
  pub bytes-at : bytes k (number_at k i l) ≡ take k (drop i l)
  unfolding number_at
  bytes-at = ap (λ (m : ℕ). bytes m (number part)) (sym part_length) ∙ bytes-number part octets-part

  pub number-below : number_at k i l < 256 ^ k
  unfolding number_at
  number-below = subst (λ (m : ℕ). number part < 256 ^ m) part_length (number_bound part octets-part)

-- ---- reading

-- what is left from place i on
pub rest-is : (r : Option (Bor (List ℕ))) (e : Bor (List ℕ)) (l : List ℕ) (i : ℕ) → e.now ≡ [] → IsGetRangeResult l i (length l) r → (unwrap_or r e).now ≡ drop i l
rest-is None e l i h p = h ∙ sym (drop_of_length-le l (past p.0))
  where
    past : (length l < i) ⊎ (length l < length l) → length l ≤ i
    past q = omega (arith, q)
rest-is (Some x) e l i h p = p.0.2 ∙ take_all (length l - i) (drop i l) (omega (arith, length-drop i l))

-- no byte is behind the K-th
pub take-least : (K : ℕ) (l : List ℕ) → take (min (length l) K) l ≡ take K l
take-least K l = go (dec_le (length l) K)
  where
    go : Dec (length l ≤ K) → take (min (length l) K) l ≡ take K l
    go (yes p) = take_all (min (length l) K) l (omega (arith, p)) ∙ sym (take_all K l p)
    go (no p) = let e : min (length l) K ≡ K = omega (arith, p) in ap (λ m. take m l) e

-- zeros behind the highest byte change nothing
pub number-pad : (l : List ℕ) (k : ℕ) → number (l ++ replicate k 0) ≡ number l
unfolding number
number-pad [] zero = refl
number-pad [] (suc k) = omega (arith, number-pad [] k)
number-pad (b ∷ l) k = ap (λ (n : ℕ). b + 256 * n) (number-pad l k)

-- the copy of one byte more over zeros
pub pad-more : (l : List ℕ) (k n : ℕ) → k < length l → k < n
    → set (take k l ++ replicate (n - k) 0) k (get_or l k 0) ≡ take (k + 1) l ++ replicate (n - (k + 1)) 0
pad-more l k n h p =
    let e : n - k ≡ suc (n - (k + 1)) = omega arith in
    let z : List ℕ = replicate (n - (k + 1)) 0 in
    ap (λ (m : ℕ). set (take k l ++ replicate m 0) k (get_or l k 0)) e
    ∙ set_at (take k l) 0 z (get_or l k 0) k (length-take-le k l (omega arith))
    ∙ sym (ap (λ (m : List ℕ). m ++ z) (take_more l k 0 h) ∙ append_assoc (take k l) (get_or l k 0 ∷ []) z)

-- a byte of a list with zeros behind it is that of the list, 0 past its end
get-pad : (l : List ℕ) (k m : ℕ) → get_or (l ++ replicate m 0) k 0 ≡ get_or l k 0
get-pad [] k zero = refl
get-pad [] zero (suc m) = refl
get-pad [] (suc k) (suc m) = get-pad [] k m
get-pad (b ∷ l) zero m = refl
get-pad (b ∷ l) (suc k) m = get-pad l k m

-- one byte more, or 0 past the end, over zeros
pub pad-next : (l : List ℕ) (k n : ℕ) → k < n
    → set (take k (l ++ replicate n 0) ++ replicate (n - k) 0) k (get_or l k 0) ≡ take (k + 1) (l ++ replicate n 0) ++ replicate (n - (k + 1)) 0
pad-next l k n p =
    let m : List ℕ = l ++ replicate n 0 in
    ap (λ (b : ℕ). set (take k m ++ replicate (n - k) 0) k b) (sym (get-pad l k n))
    ∙ pad-more m k n (omega (arith, length-append l (replicate n 0), length-replicate {A = ℕ} n 0)) p

zeros-number : (n m : ℕ) → number (take n (replicate m 0)) ≡ 0
unfolding number
zeros-number zero m = refl
zeros-number (suc n) zero = refl
zeros-number (suc n) (suc m) = omega (arith, zeros-number n m)

-- and the number is that of the bytes that are there
pub pad-number : (n m : ℕ) (l : List ℕ) → number (take n (l ++ replicate m 0)) ≡ number (take n l)
unfolding number
pad-number zero m l = refl
pad-number (suc n) m [] = zeros-number (suc n) m
pad-number (suc n) m (b ∷ l) = ap (λ (x : ℕ). b + 256 * x) (pad-number n m l)

-- ---- the store of a byte

pub ruleset stores = (set_out)

-- ---- numbers of two and of four bytes

pub number_two : (l : List ℕ) → length l ≡ 2 → number l ≡ get_or l 0 0 + 256 * get_or l 1 0
unfolding number
number_two [] h = absurd (omega arith)
number_two (a ∷ []) h = absurd (omega arith)
number_two (a ∷ b ∷ []) h = omega arith
number_two (a ∷ b ∷ c ∷ l) h = absurd (omega arith)

pub number_four : (l : List ℕ) → length l ≡ 4 → number l ≡ get_or l 0 0 + 256 * get_or l 1 0 + 65536 * get_or l 2 0 + 16777216 * get_or l 3 0
unfolding number
number_four [] h = absurd (omega arith)
number_four (a ∷ []) h = absurd (omega arith)
number_four (a ∷ b ∷ []) h = absurd (omega arith)
number_four (a ∷ b ∷ c ∷ []) h = absurd (omega arith)
number_four (a ∷ b ∷ c ∷ d ∷ []) h = omega arith
number_four (a ∷ b ∷ c ∷ d ∷ e ∷ l) h = absurd (omega arith)

-- ---- storing

pub sets-past : (vs l : List ℕ) (i : ℕ) → length l ≤ i → sets l i vs ≡ l
sets-past [] l i h = refl
sets-past (a ∷ vs) l i h = ap (λ (m : List ℕ). sets m (suc i) vs) (set_out l i a h) ∙ sets-past vs l (suc i) (omega arith)

-- the values that have a place
pub sets_cut : (vs l : List ℕ) (i : ℕ) → i ≤ length l → length l ≤ i + length vs → sets l i vs ≡ take i l ++ take (length l - i) vs
sets_cut [] l i h p = let e : length l - i ≡ 0 = omega arith in rw e (sym (append-nil (take i l) ∙ take_all i l (omega arith)))
sets_cut (a ∷ vs) l i h p = go (dec_lt i (length l)) (sets_cut vs (set l i a) (suc i))
  where
    go : Dec (i < length l)
        → (suc i ≤ length (set l i a) → length (set l i a) ≤ suc i + length vs → sets (set l i a) (suc i) vs ≡ take (suc i) (set l i a) ++ take (length (set l i a) - suc i) vs)
        → sets l i (a ∷ vs) ≡ take i l ++ take (length l - i) (a ∷ vs)
    go (no g) ih =
        let e : length l - i ≡ 0 = omega (arith, g) in
        sets-past (a ∷ vs) l i (omega (arith, g)) ∙ rw e (sym (append-nil (take i l) ∙ take_all i l (omega (arith, g))))
    go (yes g) ih =
        let e : length l - i ≡ suc (length l - suc i) = omega arith in
        ih (omega (arith, length-set l i a)) (omega (arith, length-set l i a))
        ∙ rw (length-set l i a, take-suc-set l i a g, e) (append_assoc (take i l) (a ∷ []) (take (length l - suc i) vs))

-- what is left from place i on, replaced
pub rest-put : (l ys : List ℕ) (i : ℕ) → i ≤ length l → put_mid i (length l - i) l ys ≡ take i l ++ ys
rest-put l ys i h =
    ap (λ (m : List ℕ). take i l ++ (ys ++ m)) (drop_of_length-le (drop i l) (omega (arith, length-drop i l))) ∙ ap (λ (m : List ℕ). take i l ++ m) (append-nil ys)

module _ (l vs : List ℕ) (i : ℕ) (h : i ≤ length l) where
  abbrev rest : List ℕ
  rest = take (length l - i) (drop i l)

  rest_all : rest ≡ drop i l
  rest_all = take_all (length l - i) (drop i l) (omega (arith, length-drop i l))

  rest_length : length rest ≡ length l - i
  rest_length = ap length rest_all ∙ length-drop i l

  pub put-whole : (k : ℕ) → length vs ≡ k → k ≤ length rest → put_mid i (length l - i) l (vs ++ drop k rest) ≡ sets l i vs
  put-whole k e p =
      rest-put l (vs ++ drop k rest) i h
      ∙ sym (append_assoc (take i l) vs (drop k rest))
      ∙ ap (λ (m : List ℕ). take i l ++ vs ++ m) (ap (drop k) rest_all ∙ drop-drop k i l ∙ ap (λ (m : ℕ). drop (i + m) l) (sym e))
      ∙ sym (sets-eq vs l i (omega (arith, rest_length)))

  pub put-part : (k : ℕ) → length vs ≡ k → length rest < k → (ys : List ℕ) → ys ≡ take (length rest) vs → put_mid i (length l - i) l ys ≡ sets l i vs
  put-part k e p ys q =
      rest-put l ys i h
      ∙ ap (λ (m : List ℕ). take i l ++ m) (q ∙ ap (λ (m : ℕ). take m vs) rest_length)
      ∙ sym (sets_cut vs l i h (omega (arith, rest_length)))

  -- the same, stored byte by byte
  pub put-few : (k : ℕ) → length vs ≡ k → length rest < k → (ys : List ℕ) → ys ≡ sets rest 0 vs → put_mid i (length l - i) l ys ≡ sets l i vs
  put-few k e p ys q = put-part k e p ys (q ∙ sets_cut vs rest 0 (omega arith) (omega (arith, e, p)) ∙ ap (λ (m : ℕ). take m vs) (sub-zero (length rest)))
