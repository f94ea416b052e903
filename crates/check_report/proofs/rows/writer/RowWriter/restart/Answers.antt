use Rattle.std.proofs.Common.{refl}
use Rattle.check_report.proofs.SoundRows.{sound_empty}
use Rattle.check_report.proofs.rows.writer.RowWriter.restart.Goals as goal

pub returns-clause-sound : goal.returns-clause-sound
returns-clause-sound g c = sound_empty g.W.Sink _ c.clear.ensures.items refl
