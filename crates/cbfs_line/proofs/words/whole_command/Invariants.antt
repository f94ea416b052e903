use Rattle.std.proofs.Common.{◌≡◌, false, length}
use Rattle.clap.specs.Words.{app_of}
use Rattle.clap.specs.declared.builder.command.Command.TheViews.{out-Command as fields_of}
use Rattle.cbfs_line.specs.Subcommands.{command_line}
use Rattle.cbfs_line.proofs.Tables.{with_rows}
use Rattle.cbfs_line.proofs.words.whole_command.Given as goal

abbrev pub invariant-loop-rows : goal.invariant-loop-rows
invariant-loop-rows l = record {
  local : (fields_of l.command).has_globals ≡ false;
  shape : with_rows (app_of l.command) l.rows ≡ command_line;
}

abbrev pub decreases-loop-rows : goal.decreases-loop-rows
decreases-loop-rows l = length l.rows
