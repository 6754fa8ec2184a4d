-- A problem's Catalogue as text.
pub mod CatalogueAnswers
pub mod laws
pub mod report
