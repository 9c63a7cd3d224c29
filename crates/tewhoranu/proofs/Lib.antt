-- That the numbers tell the answers, and what the proofs of several functions use.
pub mod DrawnListed
pub mod Listed
pub mod NumberLaws
pub mod Filling
