-- What two path rows are compared as, that this is what the rules say, and how the code finds it,
-- in reading order. Assumes nothing.
pub mod Compare
pub mod Promises
pub mod Letters
pub mod Steps
