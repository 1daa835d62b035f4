-- What a store into the work words does to what they hold.
-- Assumes nothing.
use Prim.Native.Nat.{ℕ, suc, ◌+◌, ◌-◌, ◌*◌, ◌%◌, ◌≤◌, ◌^◌, ◌<◌}
use mathlib.Core.Path.{◌≡◌, refl, sym, ap, ap₂, ◌∙◌, fun_ext}
use mathlib.Core.List.{List, [], ◌∷◌, ◌++◌, map-append, append_assoc}
use mathlib.Core.Logic.{◌≢◌}
use native.Mathlib.Decide.{ℕ_discrete}
use native.Mathlib.Omega.{arith}
use lib.ListN.{length, get_or, take, drop, set, length-set, length-drop}
use lib.Seq.{drop-cons, drop-set-lt, drop-set-add, take-set-le, take-set-lt, get_or-set_same, get_or-drop, length-take-le, get_or-take, drop-length}
use borrow.Author.Tests.{ne_eqb}
use Rattle.graph.specs.Numbers.{upd}
use Rattle.graph.proofs.NumberLaws.{upd_same, upd_other}
use Rattle.rules.specs.Buffers.{rec_of}
use Rattle.rules.proofs.PlaceLaws.{rec-put, rec-take}
use Rattle.rules.proofs.BufferLaws.{rec_of-get}
use Rattle.analyse.specs.Memory.{stack_end, area, size_in, Memory, mem_of, visit_words, in_front, with_state, with_link, counting}

-- ---- one word for each object

pub area-read : (n base : ℕ) (work : List ℕ) (x : ℕ) → 1 ≤ x → x ≤ n → get_or work (base + x) 0 ≡ area n base work x
unfolding area
area-read n base work x p q =
    let e : base + x ≡ base + 1 + (x - 1) = omega arith in
    rw e (sym (get_or-drop (base + 1) work (x - 1) 0) ∙ sym (rec_of-get n (drop (base + 1) work) x p q))

pub area-put : (n base : ℕ) (work : List ℕ) (x v : ℕ) → 1 ≤ x → x ≤ n → base + n < length work → (y : ℕ)
    → area n base (set work (base + x) v) y ≡ upd (area n base work) x v y
unfolding area
area-put n base work x v p q l y =
    let e : base + x ≡ base + 1 + (x - 1) = omega arith in
    rw e (ap (λ (t : List ℕ). rec_of n t y) (drop-set-add (base + 1) work (x - 1) v)
    ∙ rec-put n (drop (base + 1) work) x v p q (let a = length-drop (base + 1) work in omega arith) y)

-- a store outside the area
pub area-below : (n base : ℕ) (work : List ℕ) (i v : ℕ) → i ≤ base → area n base (set work i v) ≡ area n base work
unfolding area
area-below n base work i v h = ap (rec_of n) (drop-set-lt (base + 1) work i v (omega arith))

pub area-above : (n base : ℕ) (work : List ℕ) (i v : ℕ) → base + n < i → area n base (set work i v) ≡ area n base work
unfolding area
area-above n base work i v h =
    let e : base + 1 + (i - (base + 1)) ≡ i = omega arith in
    fun_ext (λ y. rw (← e) (ap (λ (t : List ℕ). rec_of n t y) (drop-set-add (base + 1) work (i - (base + 1)) v)
    ∙ rec-take n _ _ (take-set-le n (drop (base + 1) work) (i - (base + 1)) v (omega arith)) y))

-- ---- the memory

pub mem-path : {t t' : List ℕ} {l l' s s' : ℕ → ℕ} → t ≡ t' → l ≡ l' → s ≡ s'
    → ◌≡◌ {A = Memory} (record { todo = t; link = l; state = s }) (record { todo = t'; link = l'; state = s' })
mem-path p q r = λ i. record { todo = p i; link = q i; state = r i }

module _ (n : ℕ) (work : List ℕ) (long : 10 * n + 64 ≤ length work) where
  todo-past : (i v top : ℕ) → 8 * n < i → drop top (take (stack_end n) (set work i v)) ≡ drop top (take (stack_end n) work)
  todo-past i v top h = ap (drop top) (take-set-le (stack_end n) work i v (omega arith))

  pub put-state : (x v top : ℕ) → 1 ≤ x → x ≤ n → mem_of n (set work (9 * n + x) v) top ≡ with_state (upd (area n (9 * n) work) x v) (mem_of n work top)
  unfolding mem_of with_state
  put-state x v top p q =
      mem-path (todo-past (9 * n + x) v top (omega arith)) (area-above n (8 * n) work (9 * n + x) v (omega arith))
      (fun_ext (area-put n (9 * n) work x v p q (omega arith)))

  pub put-link : (x v top : ℕ) → 1 ≤ x → x ≤ n → mem_of n (set work (8 * n + x) v) top ≡ with_link (upd (area n (8 * n) work) x v) (mem_of n work top)
  unfolding mem_of with_link
  put-link x v top p q =
      mem-path (todo-past (8 * n + x) v top (omega arith)) (fun_ext (area-put n (8 * n) work x v p q (omega arith)))
      (area-below n (9 * n) work (8 * n + x) v (omega arith))

  pub push-mem : (top v : ℕ) → 0 < top → top ≤ stack_end n → mem_of n (set work (top - 1) v) (top - 1) ≡ in_front (v ∷ []) (mem_of n work top)
  unfolding mem_of in_front
  push-mem top v p q =
      let e : suc (top - 1) ≡ top = omega arith in
      let l = length-take-le (stack_end n) work (omega arith) in
      let t = take (stack_end n) work in
      let m : top - 1 < length (set t (top - 1) v) = simp length-set (omega arith) in
      mem-path
      (ap (drop (top - 1)) (take-set-lt (stack_end n) work (top - 1) v (omega arith)) ∙ drop-cons (set t (top - 1) v) (top - 1) 0 m
      ∙ ap₂ (λ (a : ℕ) (r : List ℕ). a ∷ r) (get_or-set_same t (top - 1) v 0 (omega arith)) (rw e (drop-set-lt top t (top - 1) v (omega arith))))
      (area-below n (8 * n) work (top - 1) v (omega arith))
      (area-below n (9 * n) work (top - 1) v (omega arith))

  pub todo-next : (top : ℕ) → top < stack_end n → (mem_of n work top).todo ≡ get_or work top 0 ∷ (mem_of n work (top + 1)).todo
  unfolding mem_of
  todo-next top h =
      let e : top + 1 ≡ suc top = omega arith in
      let l = length-take-le (stack_end n) work (omega arith) in
      rw e (drop-cons (take (stack_end n) work) top 0 (omega arith)
      ∙ ap (λ (a : ℕ). a ∷ drop (suc top) (take (stack_end n) work)) (get_or-take (stack_end n) work top 0 h))

  pub todo-end : (mem_of n work (stack_end n)).todo ≡ []
  unfolding mem_of
  todo-end =
      let l = length-take-le (stack_end n) work (omega arith) in
      ap (λ (k : ℕ). drop k (take (stack_end n) work)) (sym l) ∙ drop-length (take (stack_end n) work)

pub front-front : (a b : List ℕ) (m : Memory) → in_front a (in_front b m) ≡ in_front (a ++ b) m
unfolding in_front
front-front a b m = mem-path (sym (append_assoc a b m.todo)) refl refl

pub front-none : (m : Memory) → in_front [] m ≡ m
unfolding in_front
front-none m = refl

-- ---- visits

pub words_append : (c : ℕ) (a b : List ℕ) → visit_words c (a ++ b) ≡ visit_words c a ++ visit_words c b
unfolding visit_words
words_append c a b = map-append (λ w. w + 4096 * c) a b

-- one more member is counted
pub counting-some : (e : ℕ) (f : ℕ → ℕ) → e ≢ 0 → counting e f ≡ upd f e (f e + 4096)
unfolding counting
counting-some e f p = rw (ne_eqb e 0 p) refl

pub counting-none : (e : ℕ) (f : ℕ → ℕ) → e ≡ 0 → counting e f ≡ f
unfolding counting
counting-none e f p = rw p refl

module _ (n : ℕ) (work : List ℕ) (e : ℕ) (p : e ≢ 0) (q : e ≤ n) where
  link-read : get_or work (8 * n + e) 0 ≡ area n (8 * n) work e
  link-read = area-read n (8 * n) work e (omega (arith, p)) q

  pub count_fits : size_in (area n (8 * n) work) e ≤ 4095 → get_or work (8 * n + e) 0 + 4096 < 2 ^ 32
  count_fits h = let a = link-read in omega arith

  pub counted : 10 * n + 64 ≤ length work → (top : ℕ)
      → mem_of n (set work (8 * n + e) (get_or work (8 * n + e) 0 + 4096)) top ≡ with_link (counting e (area n (8 * n) work)) (mem_of n work top)
  counted long top =
      put-link n work long e (get_or work (8 * n + e) 0 + 4096) top (omega (arith, p)) q
      ∙ ap (λ (f : ℕ → ℕ). with_link f (mem_of n work top)) (ap (λ (v : ℕ). upd (area n (8 * n) work) e (v + 4096)) link-read ∙ sym (counting-some e (area n (8 * n) work) p))

pub not-counted : (n : ℕ) (work : List ℕ) (e : ℕ) → e ≡ 0
    → (top : ℕ) → mem_of n work top ≡ with_link (counting e (area n (8 * n) work)) (mem_of n work top)
unfolding with_link mem_of
not-counted n work e z top = ap (λ (f : ℕ → ℕ). with_link f (mem_of n work top)) (sym (counting-none e (area n (8 * n) work) z))

-- the low bits of a link word stay, and so do the other words
pub counting-next : (e : ℕ) (f : ℕ → ℕ) (x : ℕ) → counting e f x % 4096 ≡ f x % 4096
counting-next e f x = go (ℕ_discrete e 0) (ℕ_discrete x e)
  where
    go : Dec (e ≡ 0) → Dec (x ≡ e) → counting e f x % 4096 ≡ f x % 4096
    go (yes z) d = rw (counting-none e f z) refl
    go (no q) (yes i) = rw (counting-some e f q, i, upd_same f e (f e + 4096)) (omega arith)
    go (no q) (no i) = rw (counting-some e f q, upd_other f e x (f e + 4096) i) refl

pub counting-other : (e : ℕ) (f : ℕ → ℕ) (x : ℕ) → (e ≢ 0 → x ≢ e) → counting e f x ≡ f x
counting-other e f x h = go (ℕ_discrete e 0)
  where
    go : Dec (e ≡ 0) → counting e f x ≡ f x
    go (yes z) = rw (counting-none e f z) refl
    go (no q) = rw (counting-some e f q) (upd_other f e x (f e + 4096) (h q))
