use Rattle.fmap_compiler.proofs.CompiledMaps.{compiled_found}
use Rattle.fmap_compiler.proofs.laws.compiled_maps_are_found.Goals as goal

pub returns : goal.returns
returns c = compiled_found
