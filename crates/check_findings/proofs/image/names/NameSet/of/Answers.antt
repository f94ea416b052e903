use lib.Chars.{codes}
use Rattle.std.proofs.Common.{[], ◌∷◌, ◌∙◌, ap, append_assoc}
use Rattle.check_findings.specs.ImageFindings.{has_one_of, names_in}
use Rattle.check_findings.proofs.image.names.NameSet.of.Goals as goal

pub returns : goal.returns
returns c =
    c.in_ok-add_all-3.ensures _ (c.in_ok-add_all-2.ensures _ (c.in_ok-add_all.ensures [] c.new-set.ensures))
    ∙ ap (λ l. has_one_of l) (append_assoc (names_in c.args.names.now) (codes "COREBOOT" ∷ []) (names_in c.args.expected.now))
