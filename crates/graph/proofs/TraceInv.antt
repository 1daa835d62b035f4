-- What holds between two steps of the walk, in every heap whose pointers are in range, and that each of its moves keeps it: nothing is forgotten.
-- Assumes nothing.
use Prim.Native.Nat.{ℕ, suc, ◌≤◌}
use mathlib.Core.Path.{◌≡◌, sym, ap, subst, ◌∙◌}
use mathlib.Core.Bool.{true, false}
use mathlib.Core.List.{List, [], ◌∷◌, ◌++◌, Memᴰ}
use mathlib.Core.Logic.{◌≢◌, ◌⊎◌, inl, inr}
use native.Mathlib.Decide.{ℕ_discrete}
use Rattle.graph.specs.Numbers.{Obj, count}
use Rattle.graph.specs.Heap.{Heap, pointers, targets}
use Rattle.graph.specs.Trace.{Flag, marked, postponed, reached, Flags, set_flag, Walk, scan, postpone, unpostpone, arrive}
use Rattle.graph.specs.Clusters.{sinks_at}
use Rattle.graph.proofs.NumberLaws.{in_left, in_right}
use Rattle.graph.proofs.FlagLaws.{marked≢postponed, marked≢reached, reached≢marked, reached≢postponed, postponed≢marked}
use Rattle.graph.proofs.FlagLaws.{postponed≢reached, set_flag-other, set_flag-apart, Is, set_cases, set_keeps, clear-cases, count_set}
use Rattle.graph.proofs.FlagLaws.{count-other}

-- no number
abbrev pub None : ℕ → Type 0
None x = ⊥

-- the members of h's cluster among 1 to k
abbrev pub Upto : (ℕ → ℕ) → ℕ → ℕ → ℕ → Type 0
Upto cluster h k x = (cluster x ≡ h) × (x ≤ k)

module _ (H : Heap) where
  open H use {n, cluster, out}

  -- x is marked, or in a reached cluster
  abbrev pub Kept : Flags → ℕ → Type 0
  Kept s x = Is s marked x ⊎ ((cluster x ≢ 0) × Is s reached (cluster x))

  abbrev pub Handled : Flags → ℕ → Type 0
  Handled s x = Kept s x ⊎ Is s postponed x

  -- x is handled, or will be: it is to be visited, or one of D
  abbrev pub Seen : (ℕ → Type 0) → Walk → ℕ → Type 0
  Seen D w x = Handled w.flags x ⊎ (Memᴰ x w.todo ⊎ D x)

  handled-set : (s : Flags) (f : Flag) (o x : ℕ) → Handled s x → Handled (set_flag s f o true) x
  handled-set s f o x (inl (inl i)) = inl (inl (set_keeps s f o marked x i))
  handled-set s f o x (inl (inr (nz, i))) = inl (inr (nz, set_keeps s f o reached (cluster x) i))
  handled-set s f o x (inr i) = inr (set_keeps s f o postponed x i)

  module _ (from : List ℕ) where
    -- D: objects taken from the list whose visit is not done. O: out members of a reached cluster that are not yet looked at.
    pub record Inv (D O : ℕ → Type 0) (w : Walk) : Type 0 where
      pub later-member : (x : ℕ) → Is w.flags postponed x → (cluster x ≢ 0) × (cluster x ≢ x)
      pub starts-seen : (x : ℕ) → Memᴰ x (pointers from) → Seen D w x
      pub targets-seen : (x y : ℕ) → Is w.flags marked x → Memᴰ y (targets H x) → Seen D w y
      pub outs-marked : (x : ℕ) → Obj n x → Is w.flags reached (cluster x) → out x ≡ true → O x ⊎ Is w.flags marked x
      pub sinks-marked : (h y : ℕ) → Is w.flags reached h → Memᴰ y (sinks_at H h) → Is w.flags marked y
      pub heads : (x : ℕ) → Is w.flags marked x → cluster x ≡ x → Is w.flags reached x
      pub counted : w.scanned ≡ count n (λ x. w.flags marked x)

    -- Flag f is set at o, and `new` is visited next: `scan`, `postpone` and `arrive` are of this form. What each flag owes is a premise.
    inv-set : (D O O' : ℕ → Type 0) (w : Walk) (f : Flag) (o : ℕ) (new : List ℕ) (c : ℕ) → Inv D O w
        → (f ≡ postponed → (cluster o ≢ 0) × (cluster o ≢ o))
        → (f ≡ marked → (y : ℕ) → Memᴰ y (targets H o) → Memᴰ y new)
        → (f ≡ reached → (x : ℕ) → Obj n x → cluster x ≡ o → O' x)
        → ((x : ℕ) → O x → O' x)
        → (f ≡ reached → (y : ℕ) → Memᴰ y (sinks_at H o) → Is w.flags marked y)
        → (f ≡ marked → cluster o ≡ o → Is w.flags reached o)
        → c ≡ count n (λ x. set_flag w.flags f o true marked x)
        → Inv D O' (record { flags = set_flag w.flags f o true; todo = new ++ w.todo; scanned = c })
    inv-set D O O' w f o new c v at-later at-marked at-reached widen at-sinks at_head many =
        record {
          later-member = λ x i. later' x (set_cases s f o postponed x i);
          starts-seen = λ x m. seen x (v.starts-seen x m);
          targets-seen = λ x y i m. targets' x y m (set_cases s f o marked x i);
          outs-marked = λ x b i e. outs' x b e (set_cases s f o reached (cluster x) i);
          sinks-marked = λ h y i m. sinks' h y m (set_cases s f o reached h i);
          heads = λ x i e. heads' x e (set_cases s f o marked x i);
          counted = many;
        }
      where
        s : Flags
        s = w.flags

        w' : Walk
        w' = record { flags = set_flag s f o true; todo = new ++ w.todo; scanned = c }

        seen : (x : ℕ) → Seen D w x → Seen D w' x
        seen x (inl h) = inl (handled-set s f o x h)
        seen x (inr (inl m)) = inr (inl (in_right x new w.todo m))
        seen x (inr (inr d)) = inr (inr d)

        later' : (x : ℕ) → ((o ≡ x) × (f ≡ postponed)) ⊎ Is s postponed x → (cluster x ≢ 0) × (cluster x ≢ x)
        later' x (inl (e, q)) = subst (λ z. (cluster z ≢ 0) × (cluster z ≢ z)) e (at-later q)
        later' x (inr i) = v.later-member x i

        targets' : (x y : ℕ) → Memᴰ y (targets H x) → ((o ≡ x) × (f ≡ marked)) ⊎ Is s marked x → Seen D w' y
        targets' x y m (inl (e, q)) = inr (inl (in_left y new w.todo (at-marked q y (subst (λ z. Memᴰ y (targets H z)) (sym e) m))))
        targets' x y m (inr i) = seen y (v.targets-seen x y i m)

        outs' : (x : ℕ) → Obj n x → out x ≡ true → ((o ≡ cluster x) × (f ≡ reached)) ⊎ Is s reached (cluster x)
            → O' x ⊎ Is (set_flag s f o true) marked x
        outs' x b e (inl (q, g)) = inl (at-reached g x b (sym q))
        outs' x b e (inr i) = old (v.outs-marked x b i e)
          where
            old : O x ⊎ Is s marked x → O' x ⊎ Is (set_flag s f o true) marked x
            old (inl y) = inl (widen x y)
            old (inr y) = inr (set_keeps s f o marked x y)

        sinks' : (h y : ℕ) → Memᴰ y (sinks_at H h) → ((o ≡ h) × (f ≡ reached)) ⊎ Is s reached h → Is (set_flag s f o true) marked y
        sinks' h y m (inl (e, q)) = set_keeps s f o marked y (at-sinks q y (subst (λ z. Memᴰ y (sinks_at H z)) (sym e) m))
        sinks' h y m (inr i) = set_keeps s f o marked y (v.sinks-marked h y i m)

        heads' : (x : ℕ) → cluster x ≡ x → ((o ≡ x) × (f ≡ marked)) ⊎ Is s marked x → Is (set_flag s f o true) reached x
        heads' x e (inl (q, g)) = set_keeps s f o reached x (subst (λ z. Is s reached z) q (at_head g (subst (λ z. cluster z ≡ z) (sym q) e)))
        heads' x e (inr i) = set_keeps s f o reached x (v.heads x i e)

    -- exceptions are given up where they are met
    pub change : (D O D' O' : ℕ → Type 0) (w : Walk) → Inv D O w
        → ((x : ℕ) → D x → Seen D' w x)
        → ((x : ℕ) → Obj n x → out x ≡ true → O x → O' x ⊎ Is w.flags marked x)
        → Inv D' O' w
    change D O D' O' w v hd ho =
        record {
          later-member = v.later-member;
          starts-seen = λ x m. seen x (v.starts-seen x m);
          targets-seen = λ x y i m. seen y (v.targets-seen x y i m);
          outs-marked = λ x b i e. outs x b e (v.outs-marked x b i e);
          sinks-marked = v.sinks-marked;
          heads = v.heads;
          counted = v.counted;
        }
      where
        seen : (x : ℕ) → Seen D w x → Seen D' w x
        seen x (inl h) = inl h
        seen x (inr (inl m)) = inr (inl m)
        seen x (inr (inr d)) = hd x d

        outs : (x : ℕ) → Obj n x → out x ≡ true → O x ⊎ Is w.flags marked x → O' x ⊎ Is w.flags marked x
        outs x b e (inl y) = ho x b e y
        outs x b e (inr i) = inr i

    -- the next visit is taken from the list
    pub pop : (w : Walk) (o : ℕ) (r : List ℕ) → w.todo ≡ o ∷ r → Inv None None w
        → Inv (λ x. x ≡ o) None (record { flags = w.flags; todo = r; scanned = w.scanned })
    pop w o r e v =
        record {
          later-member = v.later-member;
          starts-seen = λ x m. seen x (v.starts-seen x m);
          targets-seen = λ x y i m. seen y (v.targets-seen x y i m);
          outs-marked = v.outs-marked;
          sinks-marked = v.sinks-marked;
          heads = v.heads;
          counted = v.counted;
        }
      where
        w' : Walk
        w' = record { flags = w.flags; todo = r; scanned = w.scanned }

        split : (x : ℕ) → Memᴰ x (o ∷ r) → Seen (λ y. y ≡ o) w' x
        split x (Memᴰ.head q) = inr (inr q)
        split x (Memᴰ.tail m) = inr (inl m)

        seen : (x : ℕ) → Seen None w x → Seen (λ y. y ≡ o) w' x
        seen x (inl h) = inl h
        seen x (inr (inl m)) = split x (subst (λ l. Memᴰ x l) e m)
        seen x (inr (inr d)) = absurd d

    -- ---- the moves

    pub inv-scan : (D O : ℕ → Type 0) (w : Walk) (o : ℕ) → Inv D O w → Obj n o → w.flags marked o ≡ false
        → (cluster o ≡ o → Is w.flags reached o) → Inv D O (scan H o w)
    unfolding scan
    inv-scan D O w o v b e hd =
        inv-set D O O w marked o (targets H o) (suc w.scanned) v (λ q. absurd (marked≢postponed q)) (λ _ y m. m)
        (λ q. absurd (marked≢reached q)) (λ x y. y) (λ q. absurd (marked≢reached q)) (λ _. hd)
        (ap suc v.counted ∙ sym (count_set n w.flags marked o b e))

    pub inv-postpone : (D O : ℕ → Type 0) (w : Walk) (o : ℕ) → Inv D O w → (cluster o ≢ 0) × (cluster o ≢ o) → Inv D O (postpone H o w)
    unfolding postpone
    inv-postpone D O w o v h =
        inv-set D O O w postponed o [] w.scanned v (λ _. h) (λ q. absurd (postponed≢marked q)) (λ q. absurd (postponed≢reached q)) (λ x y. y)
        (λ q. absurd (postponed≢reached q)) (λ q. absurd (postponed≢marked q))
        (v.counted ∙ sym (count-other n w.flags postponed o true marked postponed≢marked))

    pub inv-arrive : (D : ℕ → Type 0) (w : Walk) (h : ℕ) → Inv D None w → ((y : ℕ) → Memᴰ y (sinks_at H h) → Is w.flags marked y)
        → Inv D (Upto cluster h n) (arrive H h w)
    unfolding arrive
    inv-arrive D w h v sm =
        inv-set D None (Upto cluster h n) w reached h [] w.scanned v (λ q. absurd (reached≢postponed q)) (λ q. absurd (reached≢marked q))
        (λ _ x b q. (q, b.1)) (λ x y. absurd y) (λ _. sm) (λ q. absurd (reached≢marked q))
        (v.counted ∙ sym (count-other n w.flags reached h true marked reached≢marked))

    -- o is no longer postponed: it is an exception until it is found kept or is scanned
    pub inv-unpostpone : (w : Walk) (o : ℕ) → Inv None None w → Inv (λ x. x ≡ o) None (unpostpone H o w)
    unfolding unpostpone
    inv-unpostpone w o v =
        record {
          later-member = λ x i. v.later-member x (before postponed x i);
          starts-seen = λ x m. seen x (v.starts-seen x m);
          targets-seen = λ x y i m. seen y (v.targets-seen x y (before marked x i) m);
          outs-marked = λ x b i e. outs x (v.outs-marked x b (before reached (cluster x) i) e);
          sinks-marked = λ h y i m. after marked y postponed≢marked (v.sinks-marked h y (before reached h i) m);
          heads = λ x i e. after reached x postponed≢reached (v.heads x (before marked x i) e);
          counted = v.counted ∙ sym (count-other n s postponed o false marked postponed≢marked);
        }
      where
        s : Flags
        s = w.flags

        w' : Walk
        w' = record { flags = set_flag s postponed o false; todo = w.todo; scanned = w.scanned }

        before : (g : Flag) (x : ℕ) → Is w'.flags g x → Is s g x
        before g x i = clear-cases s postponed o g x i

        after : (g : Flag) (x : ℕ) → postponed ≢ g → Is s g x → Is w'.flags g x
        after g x ne i = set_flag-apart s postponed o false g x ne ∙ i

        later : (x : ℕ) → Is s postponed x → Dec (x ≡ o) → Seen (λ y. y ≡ o) w' x
        later x i (yes e) = inr (inr e)
        later x i (no ne) = inl (inr (set_flag-other s postponed o false postponed x ne ∙ i))

        seen : (x : ℕ) → Seen None w x → Seen (λ y. y ≡ o) w' x
        seen x (inl (inl (inl i))) = inl (inl (inl (after marked x postponed≢marked i)))
        seen x (inl (inl (inr (nz, i)))) = inl (inl (inr (nz, after reached (cluster x) postponed≢reached i)))
        seen x (inl (inr i)) = later x i (ℕ_discrete x o)
        seen x (inr (inl m)) = inr (inl m)
        seen x (inr (inr d)) = absurd d

        outs : (x : ℕ) → ⊥ ⊎ Is s marked x → ⊥ ⊎ Is w'.flags marked x
        outs x (inl y) = inl y
        outs x (inr i) = inr (after marked x postponed≢marked i)
