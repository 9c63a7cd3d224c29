-- Laws of the definitions of specs/, and the promises.
pub mod Numbers
pub mod Sections
pub mod PutIn
pub mod Last
pub mod Rows
pub mod Built
pub mod Turns
pub mod Under
pub mod FormedUnder
pub mod SectionUnder
pub mod BackList
pub mod Graphs
pub mod Promises
pub mod Examples
