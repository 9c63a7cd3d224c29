-- A listing that somebody delivers: what it says and its text, how the text is taken apart, how the
-- code holds the parts, and what is proved of it, in reading order. Assumes nothing.
pub mod Delivered
pub mod Apart
pub mod Steps
pub mod Promises
