-- Paths of pointers that stay inside a set of objects, and clusters whose members have one from their head.
-- Assumes nothing.
use Prim.Native.Nat.{ℕ}
use mathlib.Core.Path.{◌≡◌, refl, sym, ap, ◌∙◌, subst}
use mathlib.Core.Bool.{Bool, true, false}
use mathlib.Core.List.{List, Memᴰ}
use mathlib.Core.Logic.{◌≢◌}
use native.Mathlib.Decide.{ℕ_discrete}
use Rattle.graph.specs.Numbers.{upd}
use Rattle.graph.specs.Clusters.{keep}
use Rattle.graph.specs.Invariant.{Path, here, step, Connected, Heads}
use Rattle.graph.proofs.NumberLaws.{upd_same, upd_other}

pub path-end : {kids : ℕ → List ℕ} {P : ℕ → Type 0} {h y : ℕ} → Path kids P h y → P y
path-end (here e p) = p
path-end (step t m p) = p

pub path-start : {kids : ℕ → List ℕ} {P : ℕ → Type 0} {h y : ℕ} → Path kids P h y → P h
path-start {P} (here e p) = subst P e p
path-start (step t m p) = path-start t

-- the same path in a larger set, by pointers that keep those inside the set
pub path-map : {kids kids' : ℕ → List ℕ} {P Q : ℕ → Type 0} {h y : ℕ}
    → ((x : ℕ) → P x → Q x)
    → ((x z : ℕ) → P x → P z → Memᴰ z (kids x) → Memᴰ z (kids' x))
    → Path kids P h y → Path kids' Q h y
path-map f g (here e p) = here e (f _ p)
path-map f g (step {x} {y = z} t m p) = step (path-map f g t) (g x z (path-end t) p m) (f z p)

pub connected-head : (kids : ℕ → List ℕ) (cl : ℕ → ℕ) → Connected kids cl → Heads cl
unfolding Connected
connected-head kids cl h y p = path-start (h y (cl y) refl p)

-- an object of no cluster gets the number v: who had a number keeps it
pub upd-keeps : (cl : ℕ → ℕ) (o v d x : ℕ) → cl o ≡ 0 → d ≢ 0 → cl x ≡ d → upd cl o v x ≡ d
upd-keeps cl o v d x e p q = upd_other cl o x v (λ i. p (sym q ∙ ap cl i ∙ e)) ∙ q

-- the same inside out: who has the number d after the change is o, or had it
pub data Updated (cl : ℕ → ℕ) (o v d x : ℕ) : Type 0 where
  at : x ≡ o → v ≡ d → Updated cl o v d x
  off : x ≢ o → cl x ≡ d → Updated cl o v d x

pub updated : (cl : ℕ → ℕ) (o v d x : ℕ) → upd cl o v x ≡ d → Updated cl o v d x
updated cl o v d x e = go (ℕ_discrete x o)
  where
    go : Dec (x ≡ o) → Updated cl o v d x
    go (yes i) = at i (sym (upd_same cl o v) ∙ ap (upd cl o v) (sym i) ∙ e)
    go (no i) = off i (sym (upd_other cl o x v i) ∙ e)

-- o, of no cluster, gets a number that its owner then carries
pub heads-upd : (cl : ℕ → ℕ) (o v : ℕ) → Heads cl → cl o ≡ 0 → upd cl o v v ≡ v → Heads (upd cl o v)
heads-upd cl o v h e f y p = go (updated cl o v (upd cl o v y) y refl)
  where
    go : Updated cl o v (upd cl o v y) y → upd cl o v (upd cl o v y) ≡ upd cl o v y
    go (at i j) = rw (← j) f
    go (off i j) = rw (← j) (upd-keeps cl o v (cl y) (cl y) e (λ k. p (sym j ∙ k)) (h y (λ k. p (sym j ∙ k))))

-- a path inside a cluster stays one when an object of no cluster joins some cluster
grown : (kids : ℕ → List ℕ) (cl : ℕ → ℕ) (o v d y : ℕ) → cl o ≡ 0 → d ≢ 0
    → Path kids (λ x. cl x ≡ d) d y → Path kids (λ x. upd cl o v x ≡ d) d y
grown kids cl o v d y e p t = path-map (λ x q. upd-keeps cl o v d x e p q) (λ x z a b m. m) t

-- o joins the cluster c of an object that points at it
pub connected-join : (kids : ℕ → List ℕ) (cl : ℕ → ℕ) (o c x : ℕ)
    → Connected kids cl → cl o ≡ 0 → c ≢ 0 → cl x ≡ c → Memᴰ o (kids x) → Connected kids (upd cl o c)
unfolding Connected
connected-join kids cl o c x h e p i m y d q r = go (updated cl o c d y q)
  where
    go : Updated cl o c d y → Path kids (λ z. upd cl o c z ≡ d) d y
    go (at j k) =
        subst (λ (z : ℕ). Path kids (λ w. upd cl o c w ≡ d) d z) (sym j)
        (step (grown kids cl o c d x e r (h x d (i ∙ k) r)) m (upd_same cl o c ∙ k))
    go (off j k) = grown kids cl o c d y e r (h y d k r)

-- o heads a cluster of its own
pub connected-new : (kids : ℕ → List ℕ) (cl : ℕ → ℕ) (o : ℕ) → Connected kids cl → cl o ≡ 0 → Connected kids (upd cl o o)
unfolding Connected
connected-new kids cl o h e y d q r = go (updated cl o o d y q)
  where
    go : Updated cl o o d y → Path kids (λ z. upd cl o o z ≡ d) d y
    go (at j k) = here (j ∙ k) q
    go (off j k) = grown kids cl o o d y e r (h y d k r)

-- ---- dissolving

pub keep-in : (q : ℕ → Bool) (cl : ℕ → ℕ) (d x : ℕ) → cl x ≡ d → q d ≡ true → keep q cl x ≡ d
unfolding keep
keep-in q cl d x e t = rw (e, t) refl

pub keep_out : (q : ℕ → Bool) (cl : ℕ → ℕ) (d x : ℕ) → cl x ≡ d → q d ≡ false → keep q cl x ≡ 0
unfolding keep
keep_out q cl d x e t = rw (e, t) refl

pub keep-zero : (q : ℕ → Bool) (cl : ℕ → ℕ) (x : ℕ) → cl x ≡ 0 → keep q cl x ≡ 0
keep-zero q cl x e = go (q 0) refl
  where
    go : (b : Bool) → q 0 ≡ b → keep q cl x ≡ 0
    go true t = keep-in q cl 0 x e t
    go false t = keep_out q cl 0 x e t

pub keep-was : (q : ℕ → Bool) (cl : ℕ → ℕ) (d x : ℕ) → keep q cl x ≡ d → d ≢ 0 → (cl x ≡ d) × (q d ≡ true)
keep-was q cl d x e p = go (q (cl x)) refl
  where
    go : (b : Bool) → q (cl x) ≡ b → (cl x ≡ d) × (q d ≡ true)
    go true i = let j = sym (keep-in q cl (cl x) x refl i) ∙ e in (j, ap q (sym j) ∙ i)
    go false i = absurd (p (sym e ∙ keep_out q cl (cl x) x refl i))

pub connected-keep : (kids : ℕ → List ℕ) (q : ℕ → Bool) (cl : ℕ → ℕ) → Connected kids cl → Connected kids (keep q cl)
unfolding Connected
connected-keep kids q cl h y d e p =
    let w = keep-was q cl d y e p in
    path-map (λ x i. keep-in q cl d x i w.1) (λ x z a b m. m) (h y d w.0 p)

-- ---- a store

-- object o gets other pointers, among them those that it had into its cluster
pub connected-kids : (kids : ℕ → List ℕ) (cl : ℕ → ℕ) (o : ℕ) (l : List ℕ)
    → Connected kids cl → (cl o ≢ 0 → (z : ℕ) → cl z ≡ cl o → Memᴰ z (kids o) → Memᴰ z l) → Connected (upd kids o l) cl
unfolding Connected
connected-kids kids cl o l h s y d e p = path-map (λ x i. i) edge (h y d e p)
  where
    edge : (x z : ℕ) → cl x ≡ d → cl z ≡ d → Memᴰ z (kids x) → Memᴰ z (upd kids o l x)
    edge x z i j m = go (ℕ_discrete x o)
      where
        go : Dec (x ≡ o) → Memᴰ z (upd kids o l x)
        go (yes r) =
            let k : cl o ≡ d = ap cl (sym r) ∙ i in
            rw (r, upd_same kids o l) (s (λ n. p (sym k ∙ n)) z (j ∙ sym k) (subst (λ (v : ℕ). Memᴰ z (kids v)) r m))
        go (no r) = rw upd_other m
