-- ---- what the work words hold
pub mod Memory
-- ---- what the walk asks and leaves
pub mod Called
pub mod Filling
pub mod Starts
pub mod Lent
pub mod Judge
