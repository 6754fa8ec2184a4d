-- What the Catalogue prints.
pub mod CatalogueReports
pub mod Worked
pub mod laws
