use Rattle.check_laws.proofs.Room.{largest_content}
use Rattle.check_laws.proofs.laws.largest_content_is_taken.Goals as goal

pub returns : goal.returns
returns c = largest_content
