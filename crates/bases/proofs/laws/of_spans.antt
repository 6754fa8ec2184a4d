-- The laws behind the tests.
pub mod Missing
pub mod Completing
