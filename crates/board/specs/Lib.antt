-- The board of a graph table, in reading order: what each table holds, what is promised. Assumes
-- nothing.
pub mod Places
pub mod Tables
pub mod Cells
pub mod Edges
pub mod Marks
pub mod Made
pub mod Promises
pub mod Queries
pub mod Example
