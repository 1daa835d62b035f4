-- What marks and sweeps make of the buffers.
pub mod Sweep
