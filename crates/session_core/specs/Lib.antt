pub mod Previewing
pub mod inside
