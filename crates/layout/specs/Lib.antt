-- The layout of words and the control record, the lengths and the refusals.
pub mod Limits
pub mod Field
pub mod Word
pub mod ControlRecord
pub mod Refusal
pub mod Told
