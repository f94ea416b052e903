pub mod Words
pub mod Grammar
pub mod Faults
pub mod Layout
pub mod Table
pub mod ParserResults
pub mod Positions
