-- A graph table under other scope numbers, in reading order: what it is, what is promised of it,
-- and how the code builds it. Assumes nothing.
pub mod Renumbered
pub mod Promises
pub mod Building
