-- What the search computes, in reading order: the board it looks at with the questions asked of it,
-- the places worth entering, the tables that the code keeps, what the code asks of them, what its
-- steps answer, and all that is promised. Assumes nothing.
pub mod Board
pub mod Live
pub mod Tables
pub mod Conditions
pub mod Steps
pub mod Promises
