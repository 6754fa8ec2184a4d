-- What the code of `posing` cites.
pub mod Steps
