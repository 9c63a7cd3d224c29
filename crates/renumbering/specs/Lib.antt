-- Scopes renumbered for storage and the way back, in reading order: what is put out, the file or the
-- list of it alone, and what is promised. Assumes nothing.
pub mod Renumbering
pub mod Alone
pub mod Promises
