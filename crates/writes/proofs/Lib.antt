-- Laws of the call.
pub mod WriteLaws
