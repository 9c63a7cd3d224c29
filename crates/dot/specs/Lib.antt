-- The drawing of a gym file, in reading order: its text, what is promised of it, and how the code
-- finds what it draws. Assumes nothing.
pub mod Drawing
pub mod Promises
pub mod Rows
