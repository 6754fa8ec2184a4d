-- Proofs that printing and reading are inverse: of numerals and the first two lines, of the lines under them, of the file.
pub mod HeadBack
pub mod Unique
pub mod HeadOnly
pub mod BodyBack
pub mod BodyOnly
pub mod FileBack
