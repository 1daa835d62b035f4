-- `loads::lay::lay_sinks` takes the list of the chunk, or makes one by number. Assumes nothing.
use native.Mathlib.Omega.{arith}
use Rattle.loads.proofs.SinkPlaces.{by_number, listable, chunk-room, by-chunk}
use Rattle.loads.proofs.lay.lay_sinks.Goals as goal

pub lay_list-requires : goal.lay_list-requires
lay_list-requires c =
    chunk-room _ _ _ _ _ c.requires.0 _ c.in-Some.ensures _ c.end_of.ensures.body c.args.sinks.now c.zero.new.words c.zero.auto.words c.requires.1

pub lay_numbers-requires : goal.lay_numbers-requires
lay_numbers-requires c = listable _ _ _ _ _ c.requires.0 _ _ (omega (arith, c.zero.auto.words, c.requires.1)) c.requires.0.chunk.body

pub returns-in-Some : goal.returns-in-Some
returns-in-Some c =
    by-chunk _ _ _ _ _ c.requires.0 _ c.in-Some.ensures _ c.end_of.ensures.body _ _ _ c.requires.1 c.zero.ensures c.lay_list.ensures

pub returns-in-None : goal.returns-in-None
returns-in-None c =
    by_number _ _ _ _ _ c.requires.0 c.in-None.ensures _ _ _ _ c.requires.1 c.zero.ensures c.requires.0.chunk.body c.lay_numbers.ensures
