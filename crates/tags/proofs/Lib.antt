pub mod Takes
pub mod Marks
pub mod Distinct
pub mod Spelling
pub mod Puts
pub mod PaletteTakes
pub mod TagWorked
