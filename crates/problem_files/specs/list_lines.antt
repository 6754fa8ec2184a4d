-- The lines of a list under the first two.
pub mod Roles
pub mod Views
