use Rattle.std.proofs.Common.{◌≡◌, map, take}
use Rattle.std.specs.Prelude.{String, string_bytes}
use Rattle.std.specs.declared.alloc.Global.{Global}
use Rattle.check_line.specs.OptionFiles.{file_of, path_of, written}
use Rattle.cbfscheck.proofs.option_files.read_arguments.Given as goal

abbrev pub invariant-loop-word : goal.invariant-loop-word
invariant-loop-word l = record {
  in_order : map written l.arguments.items ≡ map string_bytes (take l.word-index l.words);
  paths : map file_of l.arguments.items
      ≡ map (λ (word : String Global). path_of (string_bytes word)) (take l.word-index l.words);
}
