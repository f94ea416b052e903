use Rattle.std.proofs.Common.{◌≡◌, ◌+◌, ◌++◌, length, map}
use Rattle.std.specs.Prelude.{filter_map, find, is_none}
use Rattle.std.specs.Option.{option_copied, option_map_or}
use Rattle.check_findings.specs.Needs.{need_bytes}
use Rattle.check_line.specs.CheckWords.{need_in, parts_of}
use Rattle.check_line.proofs.line.needs_given.Given as goal

abbrev pub invariant-loop-rest : goal.invariant-loop-rest
invariant-loop-rest l =
    let all = parts_of (option_copied l.fn.list) in
    let left = parts_of (option_copied l.rest) in
    record {
      bad : find (λ part. is_none (need_in part)) left ≡ find (λ part. is_none (need_in part)) all;
      taken : map need_bytes l.needs.items ++ filter_map need_in left ≡ filter_map need_in all;
    }

abbrev pub decreases-loop-rest : goal.decreases-loop-rest
decreases-loop-rest l = option_map_or (λ rest. length rest.now + 1) l.rest 0
