pub mod HandedCode
pub mod Passing
pub mod PendingView
pub mod SplitView
pub mod Counting
