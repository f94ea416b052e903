use Rattle.std.proofs.Common.{List, ℕ}
use Rattle.cbfscheck.proofs.OptionTextLemmas.{read_first}
use Rattle.cbfscheck.proofs.option_files.read_bytes.Goals as goal

pub returns : goal.returns
returns g c =
    let bytes : List ℕ = c.read_to_end.new.buf.items in
    rw (← c.take.ensures.inner) (read_first (g.R.Read.remaining c.take.result.inner) c.take.result.limit c.new-bytes.result.items bytes
    c.take.ensures.limit c.new-bytes.ensures.items c.in_ok-read_to_end.ensures.bytes)
