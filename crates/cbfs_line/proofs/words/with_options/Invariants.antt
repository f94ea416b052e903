use Rattle.std.proofs.Common.{◌≡◌, false, length}
use Rattle.clap.specs.Words.{app_of}
use Rattle.clap.specs.declared.builder.command.Command.TheViews.{out-Command as fields_of}
use Rattle.cbfs_line.specs.Subcommands.{with_options}
use Rattle.cbfs_line.proofs.words.with_options.Given as goal

abbrev pub invariant-loop-options : goal.invariant-loop-options
invariant-loop-options l = record {
  local : (fields_of l.command).has_globals ≡ false;
  shape : with_options (app_of l.command) l.options ≡ with_options (app_of l.fn.command) l.fn.options;
}

abbrev pub decreases-loop-options : goal.decreases-loop-options
decreases-loop-options l = length l.options
