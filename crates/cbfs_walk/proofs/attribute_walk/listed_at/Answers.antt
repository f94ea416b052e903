use Rattle.std.proofs.Common.{refl, ap, ◌∙◌, true, false}
use Rattle.flash_format.specs.Entry.{attr_head_of}
use Rattle.cbfs_walk.proofs.AttributeLists.{listed_tested}
use Rattle.cbfs_walk.proofs.ReadSequences.{Passes-none}
use Rattle.cbfs_walk.proofs.attribute_walk.listed_at.Goals as goal

pub returns-then-is_unused-clause-listed : goal.returns-then-is_unused-clause-listed
returns-then-is_unused-clause-listed g c = λ h.
    listed_tested c.args.region _ c.args.at c.args.end c.read-head.result true _ c.requires.region.inside c.requires.inside (rw c.saturating_sub.ensures at c.if-saturating_sub-lt8.false) (c.read-head.ensures ∙ ap attr_head_of (c.in_ok-read_in.ensures.value h)) c.if-is_unused.ensures refl

pub returns-then-has_bad_len-clause-listed : goal.returns-then-has_bad_len-clause-listed
returns-then-has_bad_len-clause-listed g c = λ h.
    listed_tested c.args.region _ c.args.at c.args.end c.read-head.result false true c.requires.region.inside c.requires.inside (rw c.saturating_sub.ensures at c.if-saturating_sub-lt8.false) (c.read-head.ensures ∙ ap attr_head_of (c.in_ok-read_in.ensures.value h)) c.if-is_unused.ensures c.if-has_bad_len.ensures

pub returns-clause-listed : goal.returns-clause-listed
returns-clause-listed g c = λ h.
    listed_tested c.args.region _ c.args.at c.args.end c.read-head.result false false c.requires.region.inside c.requires.inside (rw c.saturating_sub.ensures at c.if-saturating_sub-lt8.false) (c.read-head.ensures ∙ ap attr_head_of (c.in_ok-read_in.ensures.value h)) c.if-is_unused.ensures c.if-has_bad_len.ensures

pub returns-then-saturating_sub-lt8-clause-passes : goal.returns-then-saturating_sub-lt8-clause-passes
returns-then-saturating_sub-lt8-clause-passes g c = Passes-none c.args.region c.args.at _
