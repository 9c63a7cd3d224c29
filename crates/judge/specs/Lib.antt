-- What a path row is judged as, that this is what the rules say, and how the code finds it, in
-- reading order. Assumes nothing.
pub mod Judge
pub mod Standing
pub mod Listed
pub mod Marked
pub mod LastCut
pub mod Steps
