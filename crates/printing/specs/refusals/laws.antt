-- The laws behind a page.
pub mod Page
