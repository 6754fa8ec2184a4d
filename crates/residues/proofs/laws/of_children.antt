-- The laws of the definitions beside this folder.
pub mod Known
pub mod Child
pub mod Leads
pub mod Found
pub mod Weighed
pub mod Handed
pub mod Join
pub mod Relation
pub mod Numbers
