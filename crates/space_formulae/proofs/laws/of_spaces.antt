-- Laws of the definitions of specs/.
pub mod Theorems
pub mod Entry
pub mod Listing
