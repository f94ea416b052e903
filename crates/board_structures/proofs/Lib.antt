pub mod Parts
pub mod Fillings
mod Updates
mod Entries
mod DescriptorLemmas
mod PartitionTableLemmas
mod ResetVectorLemmas
mod Rules
mod GbbLemmas
mod SlotLemmas
mod HeaderLemmas
mod BlockRules
mod SlotRules
mod TableRules
