pub mod BinderView
pub mod Met
