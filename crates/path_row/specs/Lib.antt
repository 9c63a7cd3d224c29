pub mod Form
pub mod Inverse
pub mod Numbering
pub mod Lent
pub mod Promises
