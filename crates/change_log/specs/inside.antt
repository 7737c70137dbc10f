pub mod Merging
pub mod PlaceOrder
pub mod Relations
