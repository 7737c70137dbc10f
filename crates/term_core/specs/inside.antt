pub mod NameView
pub mod TermView
pub mod TreeCode
