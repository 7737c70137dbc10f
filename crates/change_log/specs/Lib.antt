pub mod Reading
pub mod inside
