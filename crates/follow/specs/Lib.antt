-- The walk over followed places, in reading order: the text of rows, how rows are taken, what
-- each place gives, and what the steps of the code answer.
-- Assumes nothing.
pub mod Text
pub mod Tally
pub mod Walk
pub mod Steps
