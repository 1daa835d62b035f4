-- ---- numbers put in, taken out and found
pub mod PostponedLaws
