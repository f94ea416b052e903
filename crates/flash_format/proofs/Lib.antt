pub mod CutSteps
pub mod Fronts
pub mod MapSteps
pub mod AttributeSteps
pub mod EntryLaws
pub mod CutLaws
pub mod CellLists
pub mod EmptyEntryLaws
pub mod Splices
pub mod MapLaws
pub mod FieldWrites
pub mod MadeLaws
pub mod Placings
pub mod NumberLaws
pub mod PrintedLaws
pub mod TypeLaws
pub mod MapBytes
mod Digits
