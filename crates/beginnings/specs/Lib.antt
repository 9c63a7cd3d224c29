-- The count of lawful beginnings (02, K11), in reading order: by the rules, as the code holds it,
-- what is promised of it, then the places of the board's tables that are counted, and what the
-- code's steps ask and answer. Assumes nothing.
pub mod Beginnings
pub mod Counted
pub mod Promises
pub mod Tables
pub mod Steps
