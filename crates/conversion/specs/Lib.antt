-- A gym file in the other form, in reading order: what it is, what is promised of it, and how the
-- code looks for what the old form cannot show. Assumes nothing.
pub mod Conversion
pub mod Promises
pub mod Rows
