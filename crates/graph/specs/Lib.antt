-- The heap as a graph, the paths of pointers in it, and the rules of clusters over it: no buffer and no bit.
pub mod Numbers
pub mod Heap
pub mod Rounds
pub mod Run
pub mod Clusters
pub mod Trace
pub mod Analysis
pub mod Invariant
pub mod DepthFirst
pub mod Writes
pub mod Trials
