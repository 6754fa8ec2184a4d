-- The laws behind it.
pub mod Printed
