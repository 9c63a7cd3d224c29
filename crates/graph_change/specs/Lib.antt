-- Changes of a graph table, in reading order: a row's place, cells replaced, the changed table, and
-- what is promised of it. Assumes nothing.
pub mod Place
pub mod Cells
pub mod Changed
pub mod Promises
