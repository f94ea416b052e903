use Rattle.cbfs_commands.proofs.ExtractedContents.{additions_extracted}
use Rattle.cbfs_commands.proofs.laws.additions_are_extracted.Goals as goal

pub returns : goal.returns
returns c = additions_extracted
