-- The texts that are read as drawings, in reading order: tokens and how they are spelled, the
-- grammar, the reading that computes what a text draws, and what is promised of the two, and what
-- the code's answers mean. Assumes nothing.
pub mod Tokens
pub mod Grammar
pub mod Reading
pub mod Promises
pub mod Answers
