use Rattle.std.proofs.Common.{◌≡◌, ◌∙◌, ◌++◌, ◌∷◌, [], ap, ap₂, map, rules, sym}
use Rattle.std.specs.Prelude.{if◌then◌else◌}
use Rattle.std.specs.List.{flat_map}
use lib.Chars.{codes}
use Rattle.json.specs.Print.{print}
use Rattle.json.specs.Token.{begin_object, end_object}
use Rattle.check_report.specs.Fields.{Line, seen_field}
use Rattle.check_report.specs.Reports.{member_tokens}
use Rattle.check_report.proofs.ReportParts.{line_after}
use Rattle.check_report.proofs.Tokens.{object_tokens}
use Rattle.check_report.proofs.rows.document.line_object.Goals as goal
use Rattle.check_report.proofs.rows.document.line_object.Goals.{then-follows, else-follows}

pub returns : goal.returns
returns c =
    let fields = map seen_field c.args.fields.now in
    let line : Line = record { head = []; fields = fields } in
    let comma : c.if-follows.as_bytes.now ≡ (if c.args.follows then codes "," else []) = elim c.if-follows.branch [ then-follows w ↦ search rules | else-follows w ↦ search rules ] in
    let text = c.in_ok-push.ensures ∙ ap₂ (λ x y. x ++ y) c.new-text.ensures.items (c.as_bytes.ensures.value ∙ comma) in
    let before = c.in_ok-put-2.ensures.before ∙ c.in_ok-put_members.ensures.before ∙ c.in_ok-put.ensures.before ∙ c.new-writer.ensures.before ∙ text in
    let first = c.in_ok-put.ensures.tokens ∙ ap (λ ts. ts ++ begin_object ∷ []) c.new-writer.ensures.tokens in
    let tokens = c.in_ok-put-2.ensures.tokens ∙ ap (λ ts. ts ++ end_object ∷ []) (c.in_ok-put_members.ensures.tokens ∙ ap (λ ts. ts ++ flat_map member_tokens fields) first) ∙ sym (object_tokens fields) in
    c.into_inner.ensures.items ∙ ap₂ (λ b ts. b ++ print ts) before tokens ∙ line_after c.args.follows line
