use Rattle.std.proofs.Common.{refl, ◌∙◌, arith}
use Rattle.cbfs_line.specs.Subcommands.{with_option, with_options}
use Rattle.cbfs_line.proofs.Tables.{one_more, ended}
use Rattle.cbfs_line.proofs.words.with_options.Goals as goal

pub loop-options-init : goal.loop-options-init
loop-options-init c = record { local = c.requires; shape = refl }

pub loop-options-preserved : goal.loop-options-preserved
loop-options-preserved c = record {
  local = c.in_ok-command.ensures.local;
  shape = one_more with_option with_options (λ a o os. refl) c.loop-options.options.now _ _ _ (omega arith) c.in_ok-command.ensures.shape ∙ c.loop-options.invariant.shape;
}

pub returns : goal.returns
returns c = record {
  local = c.loop-options.invariant.local;
  shape = ended with_options (λ a. refl) c.loop-options.options.now _ _ (omega arith) c.loop-options.invariant.shape;
}
