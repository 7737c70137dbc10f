pub mod Binders
pub mod Free
pub mod inside
