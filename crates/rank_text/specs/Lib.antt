-- A problem's Rank as text.
pub mod RankAnswers
pub mod laws
pub mod report
