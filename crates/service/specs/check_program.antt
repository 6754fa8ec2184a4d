-- What the Check program prints.
pub mod CheckProgram
pub mod laws
