pub mod ChangeCode
pub mod StandingCodes
pub mod Codes
pub mod LogView
pub mod ItemCodes
pub mod Marks
pub mod Trimmed
pub mod Walked
