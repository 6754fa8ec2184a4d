-- The text of a formula's file.
pub mod HeadText
pub mod BodyText
pub mod FileText
pub mod Theorems
pub mod laws
