pub mod BufferingLemmas
pub mod StoringLemmas
