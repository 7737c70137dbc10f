pub mod Order
pub mod Laws
pub mod Tables
pub mod TableLaws
pub mod inside
