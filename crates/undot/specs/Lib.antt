-- A drawing put into a gym file, in reading order: the scopes it must have, the rows of its edges,
-- the file with these rows, what is promised of it and of a file's own drawing, and how the code
-- puts the rows in. Assumes nothing.
pub mod Scopes
pub mod Edges
pub mod Undrawn
pub mod Promises
pub mod Back
pub mod Rows
