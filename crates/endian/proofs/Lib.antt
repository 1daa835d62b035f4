-- Numbers as bytes.
pub mod BytesLaws
