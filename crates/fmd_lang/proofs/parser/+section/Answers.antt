use Rattle.std.proofs.lemmas.Bool.Decides.{nat_tests}
use Rattle.std.proofs.Common.{◌≡◌, suc, ◌∷◌, [], refl, rules, arith, inr, ◌∙◌, add-one, ◌++◌}
use Rattle.std.proofs.lemmas.Result.{err_from_is_err_and}
use Rattle.fmd_lang.specs.Faults.{past}
use Rattle.fmd_lang.specs.ParserResults.{word_of, piece_end}
use Rattle.fmd_lang.specs.Grammar.{AreSections, Tree, view, views}
use Rattle.fmd_lang.specs.declared.section.Section.TheFolds.{fold-roll-Section}
use Rattle.fmd_lang.specs.declared.word.Kind.TheVariants.{CloseBrace, Name, OpenBrace}
use Rattle.fmd_lang.proofs.FormLemmas.{IsBody, Until, section-opens, sections-snoc}
use Rattle.fmd_lang.proofs.StepLemmas.{parses-after, reads-as, reads-then, token-mark, token-takes}
use Rattle.fmd_lang.proofs.parser.+section.Goals as goal

pub body-returns-in-OpenBrace : goal.body-returns-in-OpenBrace
body-returns-in-OpenBrace t c =
    let word = token-mark (past 3) (past 4, suc c.args.depth) OpenBrace c.in_ok-token.ensures.next c.end.ensures c.in-OpenBrace.is (λ e. cc) refl in
    parses-after (λ v. Until CloseBrace (AreSections (views v.items))) (λ v. IsBody (views v.items)) _ c.sections.result (λ v ws h. inr h) word
    c.sections.ensures

pub section-returns : goal.section-returns
section-returns t c =
    let w = word_of c.args.name.now in
    let sized = reads-then c.in_ok-size.ensures c.in_ok-parts.ensures in
    let parts = reads-then c.in_ok-flags.ensures (reads-then c.in_ok-offset.ensures sized) in
    rw (← c.end.ensures) (reads-as (λ v h. rw (fold-roll-Section Tree _)
    (w ∷ [], v, refl, (w, refl, rw (c.in_ok-to_vec.ensures.items_if_clones_equal (λ x y e. e)) c.requires.name), h)) parts)

pub sections-returns-in-CloseBrace : goal.sections-returns-in-CloseBrace
sections-returns-in-CloseBrace t c = grind (arith, nat_tests, add-one, token-mark, reads-then)

pub sections-loop-parts-preserved : goal.sections-loop-parts-preserved
sections-loop-parts-preserved t c =
    let token = c.in_ok-token.token in
    let next = rw add-one at c.in_ok-token.ensures.next in
    let w = word_of token.word in
    let word =
    token-takes {to = piece_end token.word} (λ x. x ≡ w) (past 4) (past 0, suc c.args.depth) Name next refl c.in-Name.is (λ e. cc) refl refl in
    let part = rw add-one at c.in_ok-part-in-Name.ensures in
    let one = reads-as (section-opens w (view c.in_ok-part-in-Name.part)) (reads-then word.reads part) in
    let parts : c.push.new.self.items ≡ c.loop-parts.parts.items ++ c.in_ok-part-in-Name.part ∷ [] = search rules in
    rw parts (reads-as (sections-snoc c.loop-parts.parts.items c.in_ok-part-in-Name.part) (reads-then c.loop-parts.invariant one))

pub sections-returns-in_err-token : goal.sections-returns-in_err-token
sections-returns-in_err-token t c =
    let p = err_from_is_err_and c.from_residual.result c.from_residual.ensures.1 in
    let refused = c.in_err-token.ensures.refused (past 4) in
    rw (p.1, p.2) (inr (c.loop-parts.invariant.same ∙ rw add-one at refused))
