-- Laws of the call.
pub mod SinkLaws
