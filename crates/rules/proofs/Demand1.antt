-- Demand 1, proved.
-- Assumes nothing.
use Prim.Native.Nat.{ℕ}
use mathlib.Core.Path.{◌≡◌, refl}
use mathlib.Core.Bool.{Bool, true, false, cond}
use mathlib.Core.List.{List}
use Rattle.layout.specs.declared.answers.Control.{Control}
use Rattle.layout.specs.declared.answers.WordRead.{WordRead}
use Rattle.records.specs.Record.{is_sink}
use Rattle.rules.specs.Buffers.{rec_of}
use Rattle.rules.specs.Create as Create
use Rattle.rules.specs.Allocate as Allocate
use Rattle.rules.specs.Read as Read
use Rattle.rules.specs.Show as Show
use Rattle.rules.specs.Write as Write
use Rattle.rules.specs.SetRoot as SetRoot
use Rattle.rules.specs.DeclareSink as DeclareSink
use Rattle.rules.specs.Analyse as Analyse
use Rattle.rules.specs.Collect as Collect
use Rattle.rules.specs.Save as Save
use Rattle.rules.specs.Load as Load
use Rattle.rules.specs.Demands.{Demand1, Decided, in_order}
use Rattle.rules.proofs.OrderLaws.{tuning-legal, control-legal}
use Rattle.rules.proofs.Refused.{decided, create-ordered, allocate-ordered, read-ordered, show-ordered, write-ordered, root-ordered, declare-ordered, analyse-ordered, collect-ordered}
use Rattle.rules.proofs.Frames.{create-within, allocate-within, write-within, root-within, declare-within, analyse-within, collect-within, analyse-clears, collect-clears}
use Rattle.rules.proofs.Answers.{create-new, allocate-full, allocate-gives, allocate-in-place, read_word, show-part, write-stores, write-in-place, root-stores, read-control, show-control, write-control, root-control, declare-control, collect-control}
use Rattle.rules.proofs.WellFormedLaws.{sane, formed-of, sinks-of}
use Rattle.rules.proofs.SaveLaws.{save-ordered, save-within, save-control, save-length}
use Rattle.rules.proofs.LoadTests.{load-ordered}
use Rattle.rules.proofs.LoadLaws.{load-within, load_fresh}
use Rattle.rules.proofs.WalksEnd.{clusters-end, plain-ends, analysis-ends}

-- of a sink and of any other object
declare-decided : (c : Control) (i : ℕ) (recs slots roots list sets : List ℕ) {order : List ℕ}
    → in_order order (DeclareSink.declare_tests c i recs slots roots list sets) ≡ true
    → Decided order (DeclareSink.declare_tests c i recs slots roots list sets) (DeclareSink.declare_sink c i recs slots roots list sets)
    (λ o. o.answer.refusal) (λ k. DeclareSink.gives (record { refusal = k; control = c }) recs list sets)
unfolding DeclareSink.declare_sink
declare-decided c i recs slots roots list sets e =
    decided _ _ _ (λ (o : DeclareSink.Outcome). o.answer.refusal) (either _ _ (is_sink (rec_of c.n recs i)) refl refl) (λ k. refl) e
  where
    either : (a b : DeclareSink.Outcome) (d : Bool) → a.answer.refusal ≡ 0 → b.answer.refusal ≡ 0 → (cond d a b).answer.refusal ≡ 0
    either a b true p q = p
    either a b false p q = q

pub demand1 : Demand1
unfolding Create.create Allocate.allocate Read.read Show.show Write.write SetRoot.set_root DeclareSink.declare_sink Analyse.analyse Collect.collect Save.save Load.load
demand1 = record {
  tunings = tuning-legal;
  controls = control-legal;
  created = λ n r t recs slots roots list sets. (decided _ _ _ (λ (o : Create.Outcome). o.answer.refusal) refl (λ k. refl) (create-ordered n r t recs slots roots list sets), (create-within n r t recs slots roots list sets).0, (create-within n r t recs slots roots list sets).1, (create-within n r t recs slots roots list sets).2, (create-within n r t recs slots roots list sets).3, (create-within n r t recs slots roots list sets).4, create-new n r t recs slots roots list sets);
  allocated = λ c width recs slots. (decided _ _ _ (λ (o : Allocate.Outcome). o.answer.refusal) refl (λ k. refl) (allocate-ordered c width recs slots), (allocate-within c width recs slots).0, (allocate-within c width recs slots).1, allocate-full c width recs slots, allocate-gives c width recs slots, allocate-in-place c width recs slots);
  word_read = λ c i k recs slots. (decided _ _ _ (λ (a : WordRead). a.refusal) refl (λ m. refl) (read-ordered c i k recs slots), read-control c i k recs slots, read_word c i k recs slots);
  shown = λ c i recs slots. (decided _ _ _ (λ (o : Show.Outcome). o.answer.refusal) refl (λ k. refl) (show-ordered c i recs slots), show-control c i recs slots, show-part c i recs slots);
  written = λ c i k w recs slots list sets. (decided _ _ _ (λ (o : Write.Outcome). o.answer.refusal) refl (λ m. refl) (write-ordered c i k w recs slots list sets), (write-within c i k w recs slots list sets).0, (write-within c i k w recs slots list sets).1, (write-within c i k w recs slots list sets).2, write-control c i k w recs slots list sets, write-stores c i k w recs slots list sets, write-in-place c i k w recs slots list sets);
  root_set = λ c j w recs roots. (decided _ _ _ (λ (o : SetRoot.Outcome). o.answer.refusal) refl (λ k. refl) (root-ordered c j w recs roots), root-within c j w recs roots, root-control c j w recs roots, root-stores c j w recs roots);
  declared = λ c i recs slots roots list sets. (declare-decided c i recs slots roots list sets (declare-ordered c i recs slots roots list sets), (declare-within c i recs slots roots list sets).0, (declare-within c i recs slots roots list sets).1, (declare-within c i recs slots roots list sets).2, declare-control c i recs slots roots list sets);
  analysed = λ c recs slots roots list sets work. (decided _ _ _ (λ (o : Analyse.Outcome). o.answer.refusal) refl (λ k. refl) (analyse-ordered c recs slots roots list sets work), (analyse-within c recs slots roots list sets work).0, (analyse-within c recs slots roots list sets work).1, (analyse-within c recs slots roots list sets work).2, analyse-clears c recs slots roots list sets work);
  collected = λ kind c recs slots roots list sets work map.
      (decided _ _ _ (λ (o : Collect.Outcome). o.answer.refusal) refl (λ k. refl) (collect-ordered c recs slots roots list sets work map), (collect-within kind c recs slots roots list sets work map).0, (collect-within kind c recs slots roots list sets work map).1, (collect-within kind c recs slots roots list sets work map).2, (collect-within kind c recs slots roots list sets work map).3, (collect-within kind c recs slots roots list sets work map).4, (collect-within kind c recs slots roots list sets work map).5, collect-clears kind c recs slots roots list sets work map, collect-control kind c recs slots roots list sets work map);
  saved = λ c recs slots roots list sets out. (decided _ _ _ (λ (o : Save.Outcome). o.answer.refusal) refl (λ k. refl) (save-ordered c recs slots roots list sets out), save-within c recs slots roots list sets out, save-control c recs slots roots list sets out, save-length c recs slots roots list sets out);
  loaded = λ t image recs slots roots list sets. (decided _ _ _ (λ (o : Load.Outcome). o.answer.refusal) refl (λ k. refl) (load-ordered t image recs slots roots list sets), (load-within t image recs slots roots list sets).0, (load-within t image recs slots roots list sets).1, (load-within t image recs slots roots list sets).2, (load-within t image recs slots roots list sets).3, (load-within t image recs slots roots list sets).4, load_fresh t image recs slots roots list sets);
  ends = λ c recs slots roots list sets e.
      let S = sane _ _ _ _ _ (formed-of c recs slots roots list sets e) in
      let L = (sinks-of c recs slots roots list sets e).listed in
      (clusters-end _ _ _ _ _ list S L, plain-ends _ _ _ _ _ list S L, analysis-ends _ _ _ _ _ list S L);
}
