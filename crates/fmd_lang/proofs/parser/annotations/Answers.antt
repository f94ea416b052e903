use Rattle.std.proofs.Common.{refl, sym, ◌∙◌, true, false, [], inr, arith}
use Rattle.fmd_lang.specs.Faults.{in_annotations, past}
use Rattle.fmd_lang.specs.declared.word.Kind.TheVariants.{CloseParen, OpenParen}
use Rattle.fmd_lang.proofs.FormLemmas.{flags-snoc, nested}
use Rattle.fmd_lang.proofs.StepLemmas.{reads-as, reads-then, token-annotation, token-mark}
use Rattle.fmd_lang.proofs.parser.annotations.Goals as goal

pub loop-token-init : goal.loop-token-init
loop-token-init c =
    let word =
    token-mark (past 0) (in_annotations false, c.args.depth) OpenParen c.in_ok-token.ensures.next c.end-at.ensures c.in-OpenParen.is (λ e. cc) refl in
    reads-then word.reads (record { ahead = omega arith; front = []; split = refl; form = (λ e. cc, refl); same = refl })

pub returns-in-CloseParen : goal.returns-in-CloseParen
returns-in-CloseParen c =
    let so_far = rw c.if-not-any.false at c.loop-token.invariant in
    let word =
    token-mark (in_annotations true) (past 1, c.args.depth) CloseParen c.in_ok-token-2.ensures.next c.end.ensures c.in-CloseParen.is (λ e. cc) refl in
    reads-as (λ v h. inr (nested (λ u (f, r, split, all, last). (f, r, split, (all.0 refl, all.1), last)) v h)) (reads-then so_far word.reads)

pub loop-token-preserved : goal.loop-token-preserved
loop-token-preserved c =
    let known = sym c.annotation_flag.ensures ∙ c.in-Some.is in
    let word = token-annotation c.loop-token.any c.in_ok-token-2.ensures.next c.end-at-in-loop-token.ensures known in
    reads-as (nested (flags-snoc c.loop-token.any c.loop-token.flags c.in-Some.flag)) (reads-then c.loop-token.invariant word.reads)
