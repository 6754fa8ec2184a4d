-- What Check finds.
pub mod Verdicts
