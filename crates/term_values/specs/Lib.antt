pub use Rattle.term_core.specs.Tree
pub use Rattle.term_paths.specs.Paths
pub use Rattle.term_paths.specs.Edits
pub mod Seen
pub mod inside
