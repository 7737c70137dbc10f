pub use Rattle.strategy_meaning.specs.Scopes
pub mod Table
pub mod Trails
pub mod Leading
pub mod Frames
pub mod Hands
pub mod Turns
pub mod inside
