-- Small heaps and what writes and the walks make of them, by value.
use Rattle.std.specs.Prelude.{ℕ, zero, suc, Bool, true, false, List, [], ◌∷◌, ◌++◌, map, get_or, length}
use Rattle.graph.specs.Numbers.{has}
use Rattle.graph.specs.Heap.{Heap}
use Rattle.graph.specs.Clusters.{out_bit}
use Rattle.graph.specs.Trace.{traced, keeps}
use Rattle.graph.specs.Analysis.{Rule, analyse}
use Rattle.graph.specs.Writes.{loss_of}

-- number i of a list, counted from 1; d for 0 and past the end
unfoldable pub nth : {A : Type 0} → A → List A → ℕ → A
nth d l zero = d
nth d l (suc i) = get_or l i d

-- the numbers 1 to n
unfoldable pub up_to : ℕ → List ℕ
up_to zero = []
up_to (suc n) = up_to n ++ (suc n ∷ [])

-- the heap with these pointers by object, these objects written, these sinks and these clusters by object; its out bits are exact
unfoldable pub heap : List (List ℕ) → List ℕ → List ℕ → List ℕ → Heap
heap kids written sinks clusters =
    record {
      n = length kids;
      kids = nth [] kids;
      sink = λ x. has x sinks;
      listed = sinks;
      written = λ x. has x written;
      cluster = nth 0 clusters;
      out = out_bit (nth [] kids) (λ x. has x sinks) (nth 0 clusters);
    }

-- ---- analyses

-- a heap, the limit and the root of an analysis, and what it is to leave
pub record Formed : Type 0 where
  pub start : Heap
  pub limit : ℕ
  pub root : ℕ
  pub clusters : List ℕ
  pub out_loss : ℕ

-- the bounds of "Analysis"
abbrev pub rule : Rule
rule = record { out_per_ten = 25; least = 4 }

-- out loss, then the cluster of each object
unfoldable pub formed : Formed → List ℕ
formed t =
    let a = analyse rule t.start t.limit (t.root ∷ []) in
    a.out_loss ∷ map a.heap.cluster (up_to t.start.n)

-- what is expected
unfoldable pub formed_as : Formed → List ℕ
formed_as t = t.out_loss ∷ t.clusters

-- the heaps of the analyses
unfoldable pub analyses : List Formed
analyses =
    -- a chain of nine at limit 8: eight join, the ninth heads a cluster of its own, which is too small
    record {
      start = heap ((2 ∷ []) ∷ (3 ∷ []) ∷ (4 ∷ []) ∷ (5 ∷ []) ∷ (6 ∷ []) ∷ (7 ∷ []) ∷ (8 ∷ []) ∷ (9 ∷ []) ∷ [] ∷ []) [] [] [];
      limit = 8;
      root = 1;
      clusters = 1 ∷ 1 ∷ 1 ∷ 1 ∷ 1 ∷ 1 ∷ 1 ∷ 1 ∷ 0 ∷ [];
      out_loss = 0;
    }
    -- slot 0 first, and all below it: limit 4, object 1 points at 2 and 5, both begin a chain
    ∷ record {
      start = heap ((2 ∷ 5 ∷ []) ∷ (3 ∷ []) ∷ (4 ∷ []) ∷ [] ∷ (6 ∷ []) ∷ (7 ∷ []) ∷ (8 ∷ []) ∷ [] ∷ []) [] [] [];
      limit = 4;
      root = 1;
      clusters = 1 ∷ 1 ∷ 1 ∷ 1 ∷ 5 ∷ 5 ∷ 5 ∷ 5 ∷ [];
      out_loss = 0;
    }
    -- a member of an older cluster that is no head is met: what its out member 3 points at is visited
    ∷ record {
      start =
          heap
          ((2 ∷ []) ∷ (3 ∷ []) ∷ (4 ∷ 5 ∷ []) ∷ [] ∷ (6 ∷ []) ∷ (7 ∷ []) ∷ (8 ∷ []) ∷ [] ∷ [])
          []
          []
          (1 ∷ 1 ∷ 1 ∷ 1 ∷ []);
      limit = 16;
      root = 2;
      clusters = 1 ∷ 1 ∷ 1 ∷ 1 ∷ 5 ∷ 5 ∷ 5 ∷ 5 ∷ [];
      out_loss = 0;
    }
    -- written object 2 and sink 3 join nothing and pass on nothing
    ∷ record {
      start =
          heap
          ((2 ∷ 3 ∷ 4 ∷ []) ∷ (5 ∷ []) ∷ (6 ∷ []) ∷ (7 ∷ []) ∷ (9 ∷ 10 ∷ 11 ∷ []) ∷ [] ∷ (8 ∷ []) ∷ [] ∷ [] ∷ [] ∷ [] ∷ [])
          (2 ∷ [])
          (3 ∷ [])
          [];
      limit = 16;
      root = 1;
      clusters = 1 ∷ 0 ∷ 0 ∷ 1 ∷ 5 ∷ 0 ∷ 1 ∷ 1 ∷ 5 ∷ 5 ∷ 5 ∷ [];
      out_loss = 0;
    }
    -- an older cluster's out member 4 leads to 7 before the sinks of its set, by place: 6, then 5; all three lead to chain 8 to 11, which 7 takes
    ∷ record {
      start =
          heap
          ((2 ∷ 3 ∷ []) ∷ (5 ∷ []) ∷ (4 ∷ 6 ∷ []) ∷ (7 ∷ []) ∷ (8 ∷ []) ∷ (8 ∷ []) ∷ (8 ∷ []) ∷ (9 ∷ []) ∷ (10 ∷ []) ∷ (11 ∷ []) ∷ [] ∷ [])
          []
          (6 ∷ 5 ∷ [])
          (1 ∷ 1 ∷ 1 ∷ 1 ∷ []);
      limit = 16;
      root = 1;
      clusters = 1 ∷ 1 ∷ 1 ∷ 1 ∷ 0 ∷ 0 ∷ 7 ∷ 7 ∷ 7 ∷ 7 ∷ 7 ∷ [];
      out_loss = 0;
    }
    -- four members with ten pointers at written object 5: left; with eleven: deleted
    ∷ record {
      start =
          heap ((2 ∷ 5 ∷ 5 ∷ 5 ∷ 5 ∷ []) ∷ (3 ∷ 5 ∷ 5 ∷ 5 ∷ []) ∷ (4 ∷ 5 ∷ 5 ∷ []) ∷ (5 ∷ []) ∷ [] ∷ []) (5 ∷ []) [] [];
      limit = 16;
      root = 1;
      clusters = 1 ∷ 1 ∷ 1 ∷ 1 ∷ 0 ∷ [];
      out_loss = 0;
    }
    ∷ record {
      start =
          heap ((2 ∷ 5 ∷ 5 ∷ 5 ∷ 5 ∷ []) ∷ (3 ∷ 5 ∷ 5 ∷ 5 ∷ []) ∷ (4 ∷ 5 ∷ 5 ∷ []) ∷ (5 ∷ 5 ∷ []) ∷ [] ∷ []) (5 ∷ []) [] [];
      limit = 16;
      root = 1;
      clusters = 0 ∷ 0 ∷ 0 ∷ 0 ∷ 0 ∷ [];
      out_loss = 4;
    }
    ∷ []

-- ---- collections

-- a heap and the roots of a collection, and what it is to keep and scan
pub record Traced : Type 0 where
  pub start : Heap
  pub roots : List ℕ
  pub scanned : ℕ
  pub kept : List Bool

-- which objects are kept
unfoldable pub kept : Traced → List Bool
kept t =
    let w = traced t.start t.roots in
    map (keeps t.start w.flags) (up_to t.start.n)

-- how many are scanned
unfoldable pub scanned : Traced → ℕ
scanned t = (traced t.start t.roots).scanned

-- object 1 points at 2 and 3, and 2, 3, 4 at 4, 5, 6; more pointers of 1 and 5
unfoldable pub six : List ℕ → List ℕ → List ℕ → List (List ℕ)
six more of4 of5 = (2 ∷ 3 ∷ more) ∷ (4 ∷ []) ∷ (5 ∷ []) ∷ (6 ∷ of4) ∷ of5 ∷ [] ∷ [] ∷ []

-- six members of cluster 1
unfoldable pub all1 : List ℕ
all1 = 1 ∷ 1 ∷ 1 ∷ 1 ∷ 1 ∷ 1 ∷ []

-- the heaps of the collections
unfoldable pub collections : List Traced
collections =
    -- the head is reached: nothing is scanned, all six are kept
    record {
      start = heap (six [] [] []) [] [] all1;
      roots = 1 ∷ [];
      scanned = 0;
      kept = true ∷ true ∷ true ∷ true ∷ true ∷ true ∷ false ∷ [];
    }
    -- head 1 has a pointer out, at 7
    ∷ record {
      start = heap (six (7 ∷ []) [] []) [] [] all1;
      roots = 0 ∷ 1 ∷ [];
      scanned = 2;
      kept = true ∷ true ∷ true ∷ true ∷ true ∷ true ∷ true ∷ [];
    }
    -- only member 3 is reached: the cluster is not live for that, and 3 is scanned although its head never is reached
    ∷ record {
      start = heap (six [] [] []) [] [] all1;
      roots = 3 ∷ [];
      scanned = 2;
      kept = false ∷ false ∷ true ∷ false ∷ true ∷ false ∷ false ∷ [];
    }
    -- 5 leads back to the head
    ∷ record {
      start = heap (six [] [] (1 ∷ [])) [] [] all1;
      roots = 3 ∷ [];
      scanned = 2;
      kept = true ∷ true ∷ true ∷ true ∷ true ∷ true ∷ false ∷ [];
    }
    -- the lowest postponed object first: 4, which leads to 2 and so to the head; 6 is then dropped
    ∷ record {
      start = heap ((2 ∷ 3 ∷ 4 ∷ 5 ∷ 6 ∷ []) ∷ (1 ∷ []) ∷ [] ∷ (2 ∷ []) ∷ [] ∷ [] ∷ []) [] [] all1;
      roots = 4 ∷ 6 ∷ [];
      scanned = 2;
      kept = true ∷ true ∷ true ∷ true ∷ true ∷ true ∷ [];
    }
    -- a sink that member 4, without the out bit, points at is reached through the set at head 1; sink 7, which nothing leads to, is not kept
    ∷ record {
      start = heap ((2 ∷ 3 ∷ []) ∷ [] ∷ (4 ∷ []) ∷ (5 ∷ []) ∷ (6 ∷ []) ∷ [] ∷ [] ∷ []) [] (7 ∷ 0 ∷ 5 ∷ []) (1 ∷ 1 ∷ 1 ∷ 1 ∷ []);
      roots = 1 ∷ [];
      scanned = 2;
      kept = true ∷ true ∷ true ∷ true ∷ true ∷ true ∷ false ∷ [];
    }
    ∷ []

-- ---- writes

-- a store of t in slot k of object o, and how many members it is to dissolve
pub record Stored : Type 0 where
  pub start : Heap
  pub o : ℕ
  pub k : ℕ
  pub t : ℕ
  pub loss : ℕ

-- how many it dissolves
unfoldable pub dissolved : Stored → ℕ
dissolved w = loss_of w.start w.o w.k w.t

-- object 1 with one pointer more, and a store in it
unfoldable pub storing : ℕ → ℕ → ℕ → ℕ → Stored
storing more k t loss = record { start = heap (six (more ∷ []) [] []) [] [] all1; o = 1; k = k; t = t; loss = loss }

-- the stores
unfoldable pub stores : List Stored
stores =
    -- over the only pointer at 3: nil, the same, and one into the cluster
    storing 0 1 0 6 ∷ storing 0 1 3 0 ∷ storing 0 1 6 6
    -- over one of two, either of them
    ∷ storing 3 1 0 0 ∷ storing 3 2 0 0
    -- over a pointer out of the cluster, and over nil
    ∷ storing 7 2 0 0 ∷ storing 0 2 3 0
    ∷ []
