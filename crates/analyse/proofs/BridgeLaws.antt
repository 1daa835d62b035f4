-- What the tables say of a cluster is what the definition says.
-- Assumes nothing.
use Prim.Native.Nat.{ℕ, ◌+◌, ◌*◌, ◌%◌, ◌≤◌, ◌<◌}
use mathlib.Core.Path.{◌≡◌, refl, sym, ap, ap₂, ◌∙◌, fun_ext}
use mathlib.Core.Bool.{Bool, true, false, cond, not, ◌&&◌, ◌||◌}
use mathlib.Core.List.{List}
use mathlib.Core.Logic.{◌≢◌, inl, inr}
use native.Mathlib.Decide.{ℕ_discrete}
use native.Mathlib.Omega.{arith}
use lib.Dec.{eqb, ltb, leb}
use lib.ListN.{length}
use borrow.Author.Tests.{eqb-true, le-leb, lt-leb}
use Rattle.records.specs.Record.{is_sink}
use Rattle.graph.specs.Numbers.{bit}
use Rattle.graph.specs.Heap.{Heap}
use Rattle.graph.specs.Clusters.{size, keep, out_bit, outs_of}
use Rattle.graph.specs.Analysis.{is_new, new_head, over, few, stays, out_loss_of}
use Rattle.graph.specs.Invariant.{Sizes}
use Rattle.graph.proofs.NumberLaws.{sum-ext, count-ext}
use Rattle.rules.specs.Buffers.{each_from}
use Rattle.rules.specs.View.{view, encoded_record}
use Rattle.rules.specs.Analyse.{rule_of}
use Rattle.rules.proofs.ListLaws.{each_same}
use Rattle.table.specs.Clusters.{cluster_of}
use Rattle.analyse.specs.Memory.{area, cluster_in, size_in}
use Rattle.analyse.specs.Filling.{Filling}
use Rattle.layout.specs.declared.answers.Tuning.{Tuning}
use Rattle.choices.specs.Choices.{over_by, lasts, settled}
use Rattle.analyse.specs.Judge.{walk_clusters, Tallying, Judgeable, Settled, Judged, left_of, stays_by, stays_in, left_word, loss_at, new_head_at, new_member_at}
use Rattle.analyse.proofs.JudgeLaws.{judgeable-now, judging-now}

module _ (n : ℕ) (recs slots work₀ : List ℕ) (J : Judgeable n recs slots work₀) where
  -- ---- after the counting

  module _ (work₂ : List ℕ) (T : Tallying n recs slots work₀ work₂ n) where
    abbrev H : Heap
    H = view n recs slots

    abbrev cl : ℕ → ℕ
    cl = walk_clusters n work₀

    states-two : area n (9 * n) work₂ ≡ area n (9 * n) work₀
    states-two = T.others (9 * n) (omega arith)

    links-two : area n (8 * n) work₂ ≡ area n (8 * n) work₀
    links-two = T.others (8 * n) (omega arith)

    pub decide-may : Judgeable n recs slots work₂
    decide-may = judgeable-now n recs slots work₀ work₂ T.long links-two states-two J

    outs-is : (c : ℕ) → 1 ≤ c → c ≤ n → area n 0 work₂ c ≡ outs_of n H.kids H.sink cl c
    outs-is c p q = T.entry c p q

    size_is : (c : ℕ) → c ≢ 0 → cluster_of n recs c ≡ 0 → size_in (area n (8 * n) work₂) c ≡ size n cl c
    unfolding Sizes view
    size_is c p e = ap (λ (g : ℕ → ℕ). size_in g c) links-two ∙ J.sizes c p e

    module _ (t : Tuning) where
      over-is : (c : ℕ) → 1 ≤ c → c ≤ n → cluster_of n recs c ≡ 0 → over_by t (size_in (area n (8 * n) work₂) c) (area n 0 work₂ c) ≡ over (rule_of t) H cl c
      unfolding over_by over view
      over-is c p q e = rw (size_is c (λ z. absurd (omega arith)) e, outs-is c p q) refl

      stays-is : (c : ℕ) → 1 ≤ c → c ≤ n → stays_in n t recs work₂ c ≡ stays (rule_of t) H cl c
      unfolding stays_in stays_by lasts stays is_new few view
      stays-is c p q = go (eqb (cluster_of n recs c) 0) refl
        where
          go : (b : Bool) → eqb (cluster_of n recs c) 0 ≡ b → stays_in n t recs work₂ c ≡ stays (rule_of t) H cl c
          go true e =
              let z : cluster_of n recs c ≡ 0 = eqb-true _ _ e in
              rw e (ap₂ (λ (a : Bool) (s : ℕ). not (a || ltb s t.least_members)) (over-is c p q z) (size_is c (λ z. absurd (omega arith)) z))
          go false e = rw e refl

      keep-is : (x : ℕ) → keep (stays_in n t recs work₂) (walk_clusters n work₂) x ≡ left_of t H cl x
      unfolding keep
      keep-is x = ap (λ (g : ℕ → ℕ). cond (stays_in n t recs work₂ (cluster_in g x)) (cluster_in g x) 0) states-two ∙ go (ℕ_discrete (cl x) 0)
        where
          none : (a b : Bool) → cl x ≡ 0 → cond a (cl x) 0 ≡ cond b (cl x) 0
          none true true e = refl
          none true false e = e
          none false true e = sym e
          none false false e = refl

          go : Dec (cl x ≡ 0) → cond (stays_in n t recs work₂ (cl x)) (cl x) 0 ≡ cond (stays (rule_of t) H cl (cl x)) (cl x) 0
          go (yes e) = none (stays_in n t recs work₂ (cl x)) (stays (rule_of t) H cl (cl x)) e
          go (no e) = ap (λ (b : Bool). cond b (cl x) 0) (stays-is (cl x) (omega (arith, e)) (J.fits x))

      abbrev lf : ℕ → ℕ
      lf = left_of t H cl

      abbrev ob : ℕ → Bool
      ob = out_bit H.kids H.sink lf

      left_is : (x : ℕ) → left_word n t recs slots work₂ x ≡ lf x + 4096 * bit (ob x)
      unfolding left_word
      left_is x = ap (λ (g : ℕ → ℕ). g x + 4096 * bit (out_bit H.kids H.sink g x)) (fun_ext keep-is)

      lf-low : (x : ℕ) → lf x ≤ 4095
      unfolding keep
      lf-low x = go (stays (rule_of t) H cl (cl x))
        where
          go : (b : Bool) → cond b (cl x) 0 ≤ 4095
          go true = omega (arith, J.fits x, J.sized.room.most)
          go false = omega arith

      word_low : (v : ℕ) (b : Bool) → v ≤ 4095 → (v + 4096 * bit b) % 4096 ≡ v
      word_low v true h = omega arith
      word_low v false h = omega arith

      word-high : (v : ℕ) (b : Bool) → v ≤ 4095 → leb 4096 (v + 4096 * bit b) ≡ b
      word-high v true h = le-leb 4096 (v + 4096) (omega arith)
      word-high v false h = lt-leb 4096 (v + 0) (omega arith)

      module _ (work₃ : List ℕ) (D : Filling n n (left_word n t recs slots work₂) work₂ work₃ n) where
        pub settle-may : (n ≤ length recs) × (10 * n < length work₃) × (n ≤ 4095) × ((x : ℕ) → size_in (area n (8 * n) work₃) x ≤ 4095)
        settle-may =
            let K = judging-now n recs slots work₂ work₃ (left_word n t recs slots work₂) n D decide-may in
            (J.sized.room.recs-long, omega (arith, K.sized.work-long), J.sized.room.most, K.small)

        note-is : (x : ℕ) → 1 ≤ x → x ≤ n → area n n work₃ x ≡ lf x + 4096 * bit (ob x)
        note-is x p q = D.filled x p q ∙ left_is x

        note-low : (x : ℕ) → 1 ≤ x → x ≤ n → area n n work₃ x % 4096 ≡ lf x
        note-low x p q = ap (λ (w : ℕ). w % 4096) (note-is x p q) ∙ word_low (lf x) (ob x) (lf-low x)

        records-are : (recs' : List ℕ) → recs' ≡ each_from 1 n (λ x r. settled (area n n work₃ x) r) recs
            → recs' ≡ each_from 1 n (λ x r. encoded_record (lf x) (ob x) (is_sink r) false r) recs
        unfolding settled
        records-are recs' e =
            e ∙ each_same 1 n (λ x r. settled (area n n work₃ x) r) (λ x r. encoded_record (lf x) (ob x) (is_sink r) false r) recs
            (λ x r p q. ap₂ (λ (c : ℕ) (o : Bool). encoded_record c o (is_sink r) false r) (note-low x p (omega arith))
            (ap (leb 4096) (note-is x p (omega arith)) ∙ word-high (lf x) (ob x) (lf-low x)))

        counts-three : area n 0 work₃ ≡ area n 0 work₂
        counts-three = D.others 0 (inl (omega arith))

        links-three : area n (8 * n) work₃ ≡ area n (8 * n) work₂
        links-three = D.others (8 * n) (inr (omega arith))

        states-three : area n (9 * n) work₃ ≡ area n (9 * n) work₀
        states-three = D.others (9 * n) (inr (omega arith)) ∙ states-two

        loss-same : (h : ℕ) → 0 < h → h ≤ n → loss_at n t recs work₃ h ≡ cond (new_head (rule_of t) H cl h && over (rule_of t) H cl h) (size n cl h) 0
        unfolding loss_at new_head is_new view
        loss-same h p q = go (eqb (cluster_of n recs h) 0) refl
          where
            go : (b : Bool) → eqb (cluster_of n recs h) 0 ≡ b → loss_at n t recs work₃ h ≡ cond (new_head (rule_of t) H cl h && over (rule_of t) H cl h) (size n cl h) 0
            go true e =
                let z : cluster_of n recs h ≡ 0 = eqb-true _ _ e in
                rw e (ap₂ (λ (g l : ℕ → ℕ). cond (eqb (cluster_in g h) h && over_by t (size_in l h) (area n 0 work₃ h)) (size_in l h) 0) states-three links-three
                ∙ ap (λ (a : ℕ → ℕ). cond (eqb (cl h) h && over_by t (size_in (area n (8 * n) work₂) h) (a h)) (size_in (area n (8 * n) work₂) h) 0) counts-three
                ∙ ap₂ (λ (b : Bool) (s : ℕ). cond (eqb (cl h) h && b) s 0) (over-is h p q z) (size_is h (λ y. absurd (omega arith)) z))
            go false e = rw e refl

        pub judged : (recs' : List ℕ) (loss clusters members : ℕ) → Settled n t recs work₃ recs' loss clusters members → Judged n t recs slots cl recs' loss clusters members
        unfolding out_loss_of view new_head_at new_member_at
        judged recs' loss clusters members S = record {
          records = records-are recs' S.records;
          loss-is = S.loss-is ∙ sum-ext n _ _ (λ h p q. loss-same h p q);
          clusters-is = S.clusters-is ∙ count-ext n _ _ (λ h b. ap (λ (v : ℕ). eqb (cluster_of n recs h) 0 && eqb v h) (note-low h b.0 b.1));
          members-is = S.members-is ∙ count-ext n _ _ (λ x b. ap (λ (v : ℕ). eqb (cluster_of n recs x) 0 && not (eqb v 0)) (note-low x b.0 b.1));
        }
