pub mod Fields
pub mod Endings
