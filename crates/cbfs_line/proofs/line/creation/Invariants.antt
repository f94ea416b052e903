use Rattle.std.proofs.Common.{◌≡◌, ◌≤◌, ◌+◌, ◌++◌, ◌==◌, [], false, length, map}
use Rattle.std.specs.Option.{option_map_or}
use Rattle.std.specs.List.{list_any, slice_split}
use Rattle.cbfs_line.proofs.line.creation.Given as goal

abbrev pub invariant-loop-rest : goal.invariant-loop-rest
invariant-loop-rest l =
    let taken = map (λ name. name.now) l.regions.items in
    record {
      names : taken ++ option_map_or (λ rest. slice_split (λ b. b == 44) rest.now) l.rest [] ≡ slice_split (λ b. b == 44) l.fn.list;
      named : list_any (λ name. length name == 0) taken ≡ false;
      few : length taken ≤ 16;
    }

abbrev pub decreases-loop-rest : goal.decreases-loop-rest
decreases-loop-rest l = option_map_or (λ rest. length rest.now + 1) l.rest 0
