pub mod Words
pub mod Tables
pub mod Faults
pub mod Resolving
pub mod Programs
pub mod Ranges
pub mod Checking
pub mod inside
