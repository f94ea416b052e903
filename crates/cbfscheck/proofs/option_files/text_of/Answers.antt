use Rattle.cbfscheck.proofs.OptionTextLemmas.{text_if_known}
use Rattle.cbfscheck.proofs.option_files.text_of.Goals as goal

pub returns : goal.returns
returns g c =
    text_if_known (g.R.Read.remaining c.args.reader) c.in_ok-bytes.bytes.items _ c.in_ok-bytes.ensures c.text_in.ensures
