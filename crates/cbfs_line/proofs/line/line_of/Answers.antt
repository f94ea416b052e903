use Rattle.std.specs.Box.{box_value}
use Rattle.clap.specs.Words.{found_of, rows_of, subcommand_rows_of}
use Rattle.clap.specs.declared.parser.matches.ArgMatches.TheViews.{out-ArgMatches, out-SubCommand}
use Rattle.cbfs_line.proofs.Matches.{met, line-is}
use Rattle.cbfs_line.proofs.line.line_of.Goals as goal

pub returns : goal.returns
returns c =
    let m = c.args.matches in
    let name = rw c.unwrap-options.ensures at c.remove_subcommand.ensures.name in
    let rows = rw c.unwrap-options.ensures at c.remove_subcommand.ensures.rows in
    let found = met (λ b. (out-SubCommand (box_value b)).name.now) (λ b. rows_of (found_of (out-SubCommand (box_value b)).matches)) (out-ArgMatches m).subcommand _ _ name rows in
    line-is c.args.image.now c.unwrap-options.result.0.now (rows_of (found_of c.unwrap-options.result.1)) (subcommand_rows_of m) found
