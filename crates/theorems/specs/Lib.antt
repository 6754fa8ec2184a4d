-- theorems: its parts.
pub mod catalogue_and_rank
pub mod rows_shown
pub mod worked_entries
