pub mod Binding
pub mod ContentsCode
pub mod Growing
