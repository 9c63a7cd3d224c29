-- The graph table, in reading order: where a section's rows stand, a row by its values, the edges
-- that leave a scope, and what is promised of finding them. Assumes nothing.
pub mod Sections
pub mod Values
pub mod Rows
pub mod Promises
