-- `loads::lay::lay` clears the records and slots, lays objects, roots and sinks, and clears the sets. Assumes nothing.
use mathlib.Core.Path.{◌≡◌, refl, ap, sym, ◌∙◌}
use mathlib.Core.List.{List}
use Prim.Native.Nat.{ℕ}
use native.Mathlib.Omega.{arith}
use lib.ListN.{drop}
use Rattle.rules.specs.Image.{past, cut}
use Rattle.loads.specs.Chunks.{Chunk}
use Rattle.loads.proofs.ImageLaws.{place-next}
use Rattle.loads.proofs.LoadLaws.{body_at, roomy, roots-room, first-whole, second-whole, third-whole, placed, records-laid, slots-laid, roots-laid}
use Rattle.loads.proofs.lay.lay.Goals as goal

-- the second chunk is behind the first, and the third behind it
second_at : {image : List ℕ} {one : ℕ} → Chunk image 0 one → past 1 image ≡ drop one image
unfolding past
second_at c = place-next _ 0 0 refl _ c

third_at : {image : List ℕ} {one two : ℕ} → Chunk image 0 one → Chunk image one two → past 2 image ≡ drop two image
third_at c d = place-next _ 1 _ (second_at c) _ d

pub end_of-second-requires : goal.end_of-second-requires
end_of-second-requires c = (omega arith, first-whole _ _ _ _ _ _ _ _ c.requires)

pub end_of-third-requires : goal.end_of-third-requires
end_of-third-requires c =
    (c.end_of-second.ensures.inside, ap cut (sym (second_at c.end_of-second.ensures)) ∙ second-whole _ _ _ _ _ _ _ _ c.requires)

pub end_of-end-requires : goal.end_of-end-requires
end_of-end-requires c =
    (c.end_of-third.ensures.inside, ap cut (sym (third_at c.end_of-second.ensures c.end_of-third.ensures)) ∙ third-whole _ _ _ _ _ _ _ _ c.requires)

pub lay_objects-requires : goal.lay_objects-requires
lay_objects-requires c =
    roomy _ _ _ _ _ _ _ _ c.requires _ _ _ (body_at _ 1 _ (second_at c.end_of-second.ensures) _ c.end_of-third.ensures) c.zero.auto.words c.zero-2.auto.words

pub lay_words-requires : goal.lay_words-requires
lay_words-requires c =
    let b = body_at _ 2 _ (third_at c.end_of-second.ensures c.end_of-third.ensures) _ c.end_of-end.ensures in
    (omega (arith, roots-room _ _ _ _ _ _ _ _ c.requires _ b), omega (arith, c.requires.roots-room))

pub lay_sinks-requires : goal.lay_sinks-requires
lay_sinks-requires c = (placed _ _ _ _ _ _ _ _ c.requires _ _ _ c.end_of-second.ensures c.end_of-third.ensures c.end_of-end.ensures, c.requires.sinks-room)

pub returns : goal.returns
returns c =
    let objects = body_at _ 1 _ (second_at c.end_of-second.ensures) _ c.end_of-third.ensures in
    let words = body_at _ 2 _ (third_at c.end_of-second.ensures c.end_of-third.ensures) _ c.end_of-end.ensures in
    let o = c.lay_objects.ensures in record {
      records_after = records-laid _ _ _ _ _ _ c.zero.ensures o.records_after objects;
      slots_after = slots-laid _ _ _ _ _ _ _ c.slots_len.ensures c.zero-2.ensures o.slots_after objects;
      roots_after = roots-laid _ _ _ _ _ c.lay_words.ensures.1 words;
      sinks_after = c.lay_sinks.ensures;
      sets_after = c.zero-3.ensures;
    }
