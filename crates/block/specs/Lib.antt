-- The board's block of cells and a query's, in reading order: sets as numbers, where each table
-- stands, what is read of it, the ask. Assumes nothing.
pub mod Sets
pub mod Layout
pub mod Block
pub mod Ask
