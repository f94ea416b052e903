use Rattle.std.proofs.Common.{arith}
use Rattle.std.proofs.lemmas.Grind.{common_steps}
use Rattle.std.proofs.lemmas.List.{take_at}
use Rattle.hex.proofs.HexLemmas.{length-encode_with}
use Rattle.flash_format.proofs.digest.digest_text.Goals as goal

pub returns-clause-count : goal.returns-clause-count
returns-clause-count c = omega arith

pub returns-clause-text : goal.returns-clause-text
returns-clause-text c = grind (arith, common_steps, length-encode_with, take_at)
