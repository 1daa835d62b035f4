-- Laws of the functions between the calls, and of the calls' ends.
pub mod CreateLaws
pub mod AllocateLaws
