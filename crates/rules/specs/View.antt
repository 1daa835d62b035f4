-- The heap that the buffers hold, as the rules of `graph` see it, and such a heap encoded into the records.
use Rattle.std.specs.Prelude.{ℕ, Bool, cond, List, [], map, leb, get_or, take}
use Rattle.layout.specs.Limits.{sink_max}
use Rattle.bitmap.specs.Bits.{bits_of}
use Rattle.records.specs.Record.{is_written, is_sink, is_out, cluster, with_written, with_sink, with_out, with_cluster}
use Rattle.graph.specs.Heap.{Heap}
use Rattle.graph.specs.Clusters.{out_bit, in_set}
use Rattle.rules.specs.Buffers.{rec_of, used_words, each_record}

-- the object that a word points at, 0 where it is no pointer, as every word above n
unfoldable pub target : ℕ → ℕ → ℕ
target n w = cond (leb w n) w 0

-- pointers, sinks, written bits, clusters and out bits as records and slots have them
unfoldable pub view : ℕ → List ℕ → List ℕ → Heap
view n recs slots =
    record {
      n = n;
      kids = λ x. map (target n) (used_words n recs slots x);
      sink = λ x. is_sink (rec_of n recs x);
      listed = [];
      written = λ x. is_written (rec_of n recs x);
      cluster = λ x. cluster (rec_of n recs x);
      out = λ x. is_out (rec_of n recs x);
    }

-- the heap with this list of sinks
abbrev pub listing : List ℕ → Heap → Heap
listing l H = record { n = H.n; kids = H.kids; sink = H.sink; listed = l; written = H.written; cluster = H.cluster; out = H.out }

-- all of it, with the list of sinks that the buffers have
abbrev pub heap_in : ℕ → List ℕ → List ℕ → List ℕ → Heap
heap_in n recs slots list = listing (take sink_max list) (view n recs slots)

-- where every walk begins ("Analysis", "Collection"): what the roots name
abbrev pub starts_in : ℕ → List ℕ → List ℕ
starts_in r roots = take r roots

-- the set at head h as a word: bit k is the sink in place k ("The heap")
unfoldable pub set_word : Heap → ℕ → ℕ
set_word H h = bits_of (λ k. in_set H h (get_or H.listed k 0)) 0 sink_max

-- every set made exact, that of head h in word h - 1; a number that heads no cluster has no member, so its word is 0
unfoldable pub exact_sets : Heap → List ℕ → List ℕ
exact_sets H sets = each_record H.n (λ h w. set_word H h) sets

-- the out bit that object x should have ("The heap", "Writes and sinks")
unfoldable pub exact_out : Heap → ℕ → Bool
exact_out H x = out_bit H.kids H.sink H.cluster x

-- a record with these: cluster, out, sink, written; all other bits stay
unfoldable pub encoded_record : ℕ → Bool → Bool → Bool → ℕ → ℕ
encoded_record c o s w r = with_cluster c (with_out o (with_sink s (with_written w r)))

-- every record with what the heap says of its object
unfoldable pub encoded : Heap → List ℕ → List ℕ
encoded H recs = each_record H.n (λ x r. encoded_record (H.cluster x) (H.out x) (H.sink x) (H.written x) r) recs
