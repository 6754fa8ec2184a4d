-- The laws behind the Check program.
pub mod Program
