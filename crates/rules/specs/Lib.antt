-- ---- the buffers, the heap that they hold, and when it is well formed
pub mod Buffers
pub mod View
pub mod WellFormed
-- ---- the calls
pub mod Create
pub mod Allocate
pub mod Read
pub mod Show
pub mod Write
pub mod SetRoot
pub mod DeclareSink
pub mod Analyse
pub mod Sweep
pub mod Collect
pub mod Image
pub mod Save
pub mod Load
pub mod FirstLoad
-- ---- the plain heap and lists of calls
pub mod Calls
pub mod Plain
pub mod Steps
pub mod PlainOf
-- ---- the demands
pub mod Demands
-- ---- what is computed from them
pub mod Trials
