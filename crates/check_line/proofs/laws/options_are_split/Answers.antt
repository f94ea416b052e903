use Rattle.std.proofs.Common.{refl}
use Rattle.std.specs.Str.{chars, trim_end, trim_start}
use lib.Utf8.{encode}
use Rattle.check_line.proofs.laws.options_are_split.Goals as goal

pub returns-clause-option : goal.returns-clause-option
unfolding chars encode trim_end trim_start
returns-clause-option c = refl

pub returns-clause-value : goal.returns-clause-value
unfolding chars encode trim_end trim_start
returns-clause-value c = refl

pub returns-clause-rest_of_line : goal.returns-clause-rest_of_line
unfolding chars encode trim_end trim_start
returns-clause-rest_of_line c = refl

pub returns-clause-tabs : goal.returns-clause-tabs
unfolding chars encode trim_end trim_start
returns-clause-tabs c = refl

pub returns-clause-carriage_returns : goal.returns-clause-carriage_returns
unfolding chars encode trim_end trim_start
returns-clause-carriage_returns c = refl

pub returns-clause-comments : goal.returns-clause-comments
unfolding chars encode trim_end trim_start
returns-clause-comments c = refl

pub returns-clause-no_option : goal.returns-clause-no_option
unfolding chars encode trim_end trim_start
returns-clause-no_option c = refl

pub returns-clause-nested : goal.returns-clause-nested
unfolding chars encode trim_end trim_start
returns-clause-nested c = refl

pub returns-clause-not_nested : goal.returns-clause-not_nested
unfolding chars encode trim_end trim_start
returns-clause-not_nested c = refl

pub returns-clause-path : goal.returns-clause-path
unfolding chars encode trim_end trim_start
returns-clause-path c = refl

pub returns-clause-no_path : goal.returns-clause-no_path
unfolding chars encode trim_end trim_start
returns-clause-no_path c = refl
