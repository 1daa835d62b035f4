-- Laws of the choices.
pub mod ChoiceLaws
