-- The laws behind Rank.
pub mod of_fewest
pub mod Replies
pub mod Numbers
pub mod of_matrix_rank
