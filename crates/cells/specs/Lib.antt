pub mod Refusals
pub mod Hall
pub mod Levels
pub mod SubCubes
pub mod Boxes
pub mod Rows
pub mod Texts
pub mod Cases
