-- Listings that somebody delivers, taken in or not: the tests of one listing, the verdict on all of
-- them, how the code finds it, and what is proved of it, in reading order. Assumes nothing.
pub mod Tests
pub mod Verdict
pub mod Classes
pub mod Steps
pub mod Promises
