-- Lists of forms handed in.
pub mod Lists
pub mod laws
