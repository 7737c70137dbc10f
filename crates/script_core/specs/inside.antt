pub mod Performing
pub mod PreviewLines
pub mod Running
