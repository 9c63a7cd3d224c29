-- The program `gym`: what its words ask for, what it says, that it reads enough to know. Assumes
-- nothing.
pub mod Text
pub mod Words
pub mod Said
pub mod Handed
pub mod Promises
