pub mod Bounded
pub mod Shape
pub mod ValueFalls
pub mod ValueView
pub mod Walk
