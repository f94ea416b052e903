pub mod OptionTextLemmas
