-- The forms that a problem's file hands in, judged.
pub mod Judged
