-- `loads::chunks::image_refusal` goes through the first three chunks, then through the rest. Assumes nothing.
use Rattle.std.proofs.Common.{rules}
use Rattle.std.proofs.lemmas.Result.{err_from_is_err_and}
use mathlib.Core.Path.{◌≡◌}
use mathlib.Core.Bool.{not}
use mathlib.Core.List.{List}
use Prim.Native.Nat.{ℕ}
use lib.ListN.{drop}
use native.Mathlib.Omega.{arith}
use Rattle.endian.specs.Bytes.{number_at}
use Rattle.rules.specs.Image.{sizes_ok, body_of}
use Rattle.loads.specs.Bodies.{objects_pass}
use Rattle.loads.specs.Chunks.{Chunk, chunk_refusal}
use Rattle.loads.proofs.ImageLaws.{empty, chunk-uncut, place-next, Second, second, second-most, second-sunk, Third, third, first-stop, second-stop, third-stop, third-on}
use Rattle.loads.proofs.chunks.image_refusal.Goals as goal

-- the second chunk is at a place, and the third
second_at : {image : List ℕ} {at n : ℕ} → 0 ≡ chunk_refusal 0 image (not (sizes_ok (body_of image))) → Chunk image 0 at → n ≡ number_at 2 8 image → Second image at n
second_at is c e = second _ is _ _ c e

third_at : {image : List ℕ} {at n e : ℕ} → Second image at n → 0 ≡ chunk_refusal 1 (drop at image) (not (objects_pass n (body_of (drop at image)))) → Chunk image at e
    → Third image e
third_at s is c = third _ _ _ s is _ c

pub returns-in_err-sizes_refusal : goal.returns-in_err-sizes_refusal
returns-in_err-sizes_refusal c = search (rules, first-stop)

pub end_of-second-requires : goal.end_of-second-requires
end_of-second-requires c = (omega arith, chunk-uncut 0 _ _ c.in_ok-sizes_refusal.ensures)

pub objects_refusal-requires : goal.objects_refusal-requires
objects_refusal-requires c =
    let s = second_at c.in_ok-sizes_refusal.ensures c.end_of-second.ensures c.get2-n.ensures in
    (s.most, c.end_of-second.ensures.inside, empty, empty)

pub returns-in_err-objects_refusal : goal.returns-in_err-objects_refusal
returns-in_err-objects_refusal c =
    let s = second_at c.in_ok-sizes_refusal.ensures c.end_of-second.ensures c.get2-n.ensures in
    let p = err_from_is_err_and c.from_residual-in_err-objects_refusal.result c.from_residual-in_err-objects_refusal.ensures.1 in
    rw (p.1, p.2) (second-stop _ _ _ s _ c.in_err-objects_refusal.ensures.value)

pub end_of-third-requires : goal.end_of-third-requires
end_of-third-requires c = (c.end_of-second.ensures.inside, chunk-uncut 1 _ _ c.in_ok-objects_refusal.ensures.value)

pub roots_refusal-requires : goal.roots_refusal-requires
roots_refusal-requires c =
    let s = second_at c.in_ok-sizes_refusal.ensures c.end_of-second.ensures c.get2-n.ensures in
    (s.most, c.end_of-third.ensures.inside)

pub returns-in_err-roots_refusal : goal.returns-in_err-roots_refusal
returns-in_err-roots_refusal c =
    let s = second_at c.in_ok-sizes_refusal.ensures c.end_of-second.ensures c.get2-n.ensures in
    let o = c.in_ok-objects_refusal.ensures in
    let p = err_from_is_err_and c.from_residual-in_err-roots_refusal.result c.from_residual-in_err-roots_refusal.ensures.1 in
    rw (p.1, p.2) (third-stop _ _ _ _ _ _ s (third_at s o.value c.end_of-third.ensures) o.listed c.get2.ensures _ c.in_err-roots_refusal.ensures)

pub end_of-requires : goal.end_of-requires
end_of-requires c = (c.end_of-third.ensures.inside, chunk-uncut 2 _ _ c.in_ok-roots_refusal.ensures)

pub rest_refusal-requires : goal.rest_refusal-requires
rest_refusal-requires c =
    let s = second_at c.in_ok-sizes_refusal.ensures c.end_of-second.ensures c.get2-n.ensures in
    let o = c.in_ok-objects_refusal.ensures in
    let t = third_at s o.value c.end_of-third.ensures in
    record {
      from_in_bounds = (c.end_of.ensures.inside, place-next _ 2 _ t.here _ c.end_of.ensures, second-most _ _ _ s);
      sunk = second-sunk _ _ _ s c.objects_refusal.new.sinks o.sunk;
    }

pub returns : goal.returns
returns c =
    let s = second_at c.in_ok-sizes_refusal.ensures c.end_of-second.ensures c.get2-n.ensures in
    let o = c.in_ok-objects_refusal.ensures in
    let t = third_at s o.value c.end_of-third.ensures in
    third-on _ _ _ _ _ _ s t o.listed c.get2.ensures c.in_ok-roots_refusal.ensures _ c.rest_refusal.ensures
