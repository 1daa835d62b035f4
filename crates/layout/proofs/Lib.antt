-- Laws of the layout.
pub mod BoolLaws
pub mod FieldLaws
pub mod LimitLaws
pub mod WordLaws
pub mod ControlLaws
pub mod RefusalLaws
