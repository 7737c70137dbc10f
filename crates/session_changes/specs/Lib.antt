pub mod Sides
pub mod DifferenceLaws
pub mod inside
