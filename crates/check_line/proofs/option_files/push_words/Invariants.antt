use Rattle.std.proofs.Common.{◌≡◌, ◌+◌, ◌++◌, [], length}
use Rattle.std.specs.Prelude.{find}
use Rattle.std.specs.List.{flat_map}
use Rattle.std.specs.Option.{option_copied, option_map_or}
use Rattle.check_line.specs.CheckWords.{texts}
use Rattle.check_line.specs.OptionFiles.{lines_of, names_file, nested_line, words_in, words_in_line}
use Rattle.check_line.proofs.option_files.push_words.Given as goal

abbrev pub invariant-loop-rest : goal.invariant-loop-rest
invariant-loop-rest l =
    let left = option_map_or lines_of (option_copied l.rest) [] in
    record {
      nested : find names_file left ≡ nested_line l.fn.text;
      taken : texts l.words.items ++ flat_map words_in_line left
          ≡ texts l.initial.words.items ++ words_in l.fn.text;
    }

abbrev pub decreases-loop-rest : goal.decreases-loop-rest
decreases-loop-rest l = option_map_or (λ rest. length rest.now + 1) l.rest 0
