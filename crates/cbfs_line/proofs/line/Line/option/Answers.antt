use Rattle.std.proofs.Common.{◌∙◌, ap}
use Rattle.clap.proofs.WalkLemmas.{first_value-rows}
use Rattle.clap.specs.Words.{first_of, found_of}
use Rattle.cbfs_line.specs.CommandLine.{Texts}
use Rattle.cbfs_line.proofs.line.Line.option.Goals as goal

pub returns : goal.returns
returns c = c.get_str.ensures ∙ first_value-rows (found_of c.self.inside.options) c.args.id.now
    ∙ ap (λ (t : Texts). first_of c.args.id.now t.options) c.self.view_is
