-- What Rank prints.
pub mod RankReports
pub mod Worked
pub mod laws
