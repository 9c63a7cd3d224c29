-- Laws of the definitions of specs/, for this crate and those above it.
pub mod Keys
pub mod RowLaws
pub mod CellLaws
pub mod Leading
pub mod PlaceLaws
pub mod EdgeLaws
pub mod ChangeLaws
pub mod KeyLaws
pub mod SectionLaws
pub mod TableLaws
pub mod FormedLaws
pub mod Examples
