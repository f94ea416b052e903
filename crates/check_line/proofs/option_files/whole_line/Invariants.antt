use Rattle.std.proofs.Common.{◌≡◌, ◌++◌, drop}
use Rattle.std.specs.List.{flat_map}
use Rattle.check_line.specs.CheckWords.{texts}
use Rattle.check_line.specs.OptionFiles.{first_nested, words_for}
use Rattle.check_line.proofs.option_files.whole_line.Given as goal

abbrev pub invariant-loop-argument : goal.invariant-loop-argument
invariant-loop-argument l =
    let left = drop l.argument-index l.arguments in
    record {
      nested : first_nested left ≡ first_nested l.arguments;
      taken : texts l.words.items ++ flat_map words_for left ≡ flat_map words_for l.arguments;
    }
