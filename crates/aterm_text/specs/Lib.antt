pub mod Signs
pub mod Tokens
pub mod Grammar
pub mod Nesting
pub mod Printed
pub mod Layout
pub mod Laws
pub mod inside
