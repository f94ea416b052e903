use Rattle.std.proofs.Common.{◌≡◌, ◌≢◌, ℕ, List, [], ap, arith}
use Rattle.std.specs.Prelude.{slice_index}
use Rattle.flash_format.specs.Components.{component_at}
use Rattle.flash_format.specs.Head.{head_of}
use Rattle.cbfs_anchor.specs.Metadata.{metadata}
use Rattle.cbfs_anchor.specs.Samples.{named_cell}
use Rattle.cbfs_anchor.proofs.numbers.a_renamed_component_is_hashed.Goals as goal

other_letter : ¬ (let a : ℕ = 97 in a ≡ 98)
other_letter same = omega (arith, same)

other_metadata : metadata (component_at 0 (named_cell 97)) ≢ metadata (component_at 0 (named_cell 98))
unfolding head_of named_cell
other_metadata same = other_letter (ap (λ (l : List ℕ). slice_index l 24) same)

pub returns : goal.returns
returns c = c.changed_metadata_is_hashed.ensures [] [] (component_at 0 (named_cell 97)) (component_at 0 (named_cell 98)) other_metadata
