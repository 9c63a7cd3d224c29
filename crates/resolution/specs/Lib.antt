-- What a query's listing and the summary are, that they are what the rules say, and how the code
-- holds them, in reading order. Assumes nothing.
pub mod Summary
pub mod Listing
pub mod Demand
pub mod Totals
pub mod Marked
pub mod Asked
pub mod Figures
