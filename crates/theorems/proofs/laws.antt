-- The theorems on the definitions of specs/.
pub mod of_catalogue_and_rank
pub mod of_rows_shown
