use Rattle.fmd_lang.proofs.TableBytes.{table_read}
use Rattle.fmd_lang.proofs.laws.tables_are_maps.Goals as goal

pub returns : goal.returns
returns c = λ t more is laid table. table_read t c.args.text.now more c.args.table.now c.requires is laid table
