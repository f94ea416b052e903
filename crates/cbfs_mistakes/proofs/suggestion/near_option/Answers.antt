use Rattle.cbfs_mistakes.specs.Suggestions.{near_option}
use Rattle.cbfs_mistakes.proofs.suggestion.near_option.Goals as goal

pub returns : goal.returns
unfolding near_option
returns c = rw (← c.letters_of.ensures, ← c.without_value.ensures) c.option_among.ensures
