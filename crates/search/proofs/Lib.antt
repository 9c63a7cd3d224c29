-- Laws: that the search's definitions are the rules, that nothing lies behind a place that a closed
-- table lacks, and what the proofs of several functions use.
pub mod Measure
pub mod RulesLists
pub mod RulesNodes
pub mod RulesCut
pub mod RulesReached
pub mod RulesHits
pub mod Closed
pub mod Passing
pub mod Cells
pub mod Closing
pub mod Rules
pub mod HopLaws
pub mod Leads
pub mod CutEnds
pub mod Alike
pub mod LaterLaws
pub mod Parts
pub mod Promises
