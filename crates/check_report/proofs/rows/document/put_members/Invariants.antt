use Rattle.std.proofs.Common.{Ok, map, take}
use Rattle.std.specs.List.{flat_map}
use Rattle.check_report.specs.Fields.{seen_field}
use Rattle.check_report.specs.Reports.{member_tokens}
use Rattle.check_report.specs.Effects.{AddsTokens}
use Rattle.check_report.proofs.rows.document.put_members.Given as goal

abbrev pub invariant-loop-field : goal.invariant-loop-field
invariant-loop-field l = AddsTokens (Ok tt) l.initial.writer l.writer (flat_map member_tokens (map seen_field (take l.field-index l.fields)))
