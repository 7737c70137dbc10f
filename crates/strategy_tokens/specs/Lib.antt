pub mod Tokens
pub mod Items
pub mod Places
pub mod Laws
pub mod Marks
pub mod inside
