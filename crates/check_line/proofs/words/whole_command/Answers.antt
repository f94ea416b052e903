use Rattle.std.proofs.Common.{◌≡◌, ◌∙◌, ap, ap₂, codes, false, List, [], ◌∷◌, map, refl, sym, true, Some, ℕ}
use Rattle.std.specs.Prelude.{fold}
use Rattle.std.proofs.lemmas.Result.{IfOk-weaker}
use Rattle.clap.specs.Words.{AddsArg, AddsInTurn, App, Rule, app_of, new_app, rule_of, with_rule}
use Rattle.clap.specs.Simple.{app_of_fields}
use Rattle.clap.specs.declared.builder.arg.Arg.{Arg}
use Rattle.clap.specs.declared.builder.command.Command.{Command}
use Rattle.check_line.specs.CheckWords.{check_words, flag}
use Rattle.check_line.proofs.words.whole_command.Goals as goal

-- without the program's name
abbrev nameless : App → App
nameless a = record a { top = record a.top { no_binary_name = true } }

-- arguments of the command alone, not of its subcommands, add their rules
all_added : (old : Command) (args : List Arg) (new : Command)
    → map (λ (arg : Arg). arg.global) args ≡ map (λ _. false) args → AddsInTurn AddsArg old args new
    → app_of new ≡ fold with_rule (app_of old) (map rule_of args)
all_added old [] new local added = ap app_of (sym added)
all_added old (arg ∷ args) new local added = all_added added.0 args new (cc) added.2
    ∙ ap (λ (app : App). fold with_rule app (map rule_of args)) (added.1.shape (cc))

abbrev lettered : ℕ → Rule → Rule
lettered letter rule = record rule { short = Some letter }

also : {X : Type 0} {x y : X} {xs ys : List X} → x ≡ y → xs ≡ ys → x ∷ xs ≡ y ∷ ys
also = ap₂ (λ x xs. x ∷ xs)

pub returns : goal.returns
returns c =
    let begun : app_of c.no_binary_name-command.result ≡ nameless (new_app (codes "cbfscheck")) = ap app_of_fields c.no_binary_name-command.ensures ∙ ap nameless c.new-5.ensures.app in
    let args = c.in_ok-arguments.arguments.items in
    let are = c.in_ok-arguments.ensures.items in
    let local : map (λ (arg : Arg). arg.global) args ≡ map (λ _. false) args = rw are
    (rw (c.new.ensures.optional.1, c.new-2.ensures.optional.1, c.flag.ensures.local)
    (rw (c.flag-2.ensures.local, c.flag-3.ensures.local, c.flag-4.ensures.local)
    (rw (c.flag-5.ensures.local, c.flag-6.ensures.local)
    (rw (c.short.ensures, c.short-2.ensures)
    (rw (c.new-3.ensures.optional.1, c.new-4.ensures.optional.1)
    (rw (c.long.ensures.local, c.long-2.ensures.local, c.long-3.ensures.local)
    (rw (c.long-4.ensures.local, c.long-5.ensures.local, c.long-6.ensures.local)
    (rw c.long-7.ensures.local refl)))))))) in
    let rules : map rule_of args ≡ check_words.top.rules = ap (map rule_of) are
    ∙ also c.new.ensures.rule (also c.new-2.ensures.rule (also (ap rule_of c.short.ensures ∙ ap (lettered 114) c.new-3.ensures.rule)
    (also (c.flag.ensures.rule ∙ ap flag (ap rule_of c.short-2.ensures ∙ ap (lettered 118) c.new-4.ensures.rule)) (also (c.flag-2.ensures.rule ∙ ap flag c.long.ensures.rule) (also (c.flag-3.ensures.rule ∙ ap flag c.long-2.ensures.rule) (also c.long-3.ensures.rule
    (also (c.flag-4.ensures.rule ∙ ap flag c.long-4.ensures.rule)
    (also (c.flag-5.ensures.rule ∙ ap flag c.long-5.ensures.rule)
    (also (c.flag-6.ensures.rule ∙ ap flag c.long-6.ensures.rule)
    (also c.long-7.ensures.rule refl)))))))))) in
    IfOk-weaker c.args-2.result _ _ (λ command added. all_added _ _ command local added ∙ ap₂ (fold with_rule) begun rules) c.args-2.ensures
