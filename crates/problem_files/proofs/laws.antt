-- What the code's proofs cite.
pub mod of_handed_forms
pub mod of_inputs
pub mod of_judging
pub mod Steps
pub mod Accepted
pub mod Numbers
pub mod of_list_lines
pub mod of_posing
