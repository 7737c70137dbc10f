pub mod Malformed
pub mod Numbers
