pub mod CellContents
pub mod Marks
pub mod Heads
pub mod Building
pub use Rattle.strategy_meaning.specs.Matching
pub mod inside
