-- Sets of numbers as the bits of 64-bit words.
pub mod Bits
