pub mod Word
pub mod Tree
pub mod Kind
pub mod Size
pub mod Lending
pub mod Terms
pub mod inside
