use Rattle.std.proofs.Common.{rules, ◌≡◌, ◌∙◌, ap, drop, sym, List, ℕ, Option, map}
use Rattle.std.specs.Option.{option_map}
use Rattle.std.specs.Borrow.{Bor}
use Rattle.clap.specs.Words.{App, Row, fault_of, is_simple, is_simple_and_free, subcommand_of}
use Rattle.cbfs_line.specs.Subcommands.{command_line}
use Rattle.cbfs_line.specs.CommandLine.{texts_of, with_image}
use Rattle.cbfs_line.proofs.Matches.{simple, simple_shape, faultless}
use Rattle.cbfs_line.proofs.line.read_line.Goals as goal

pub returns-in_default-clause-wordless : goal.returns-in_default-clause-wordless
returns-in_default-clause-wordless c = search rules depth 1

pub returns-in-Ok-try_get_matches_from-clause-line : goal.returns-in-Ok-try_get_matches_from-clause-line
returns-in-Ok-try_get_matches_from-clause-line c =
    let shape = c.in-Ok.ensures.shape in
    let image : List ℕ = c.in-Some.image.now.now in
    let texts = λ (l : List (Bor (List ℕ))). map (λ w. w.now) l in
    let met = (c.in-Ok-try_get_matches_from.ensures.matches (ap (λ (a : App). is_simple a) shape ∙ simple_shape)).1 in
    c.line_of.ensures
    ∙ ap (λ (o : Option (List ℕ × List Row)). option_map (with_image image) o) met
    ∙ ap (λ (a : App). option_map (with_image image) (subcommand_of a (texts c.in-Some.rest.now))) shape
    ∙ ap (λ (l : List (Bor (List ℕ))). texts_of (texts l)) (sym c.in-Some.ensures.cases.0)

pub returns-in-Ok-try_get_matches_from-clause-usage : goal.returns-in-Ok-try_get_matches_from-clause-usage
returns-in-Ok-try_get_matches_from-clause-usage c = search rules depth 1

pub returns-in_default-whole_command-clause-refusals : goal.returns-in_default-whole_command-clause-refusals
returns-in_default-whole_command-clause-refusals c = search rules depth 1

pub returns-in_default-whole_command-clause-usage : goal.returns-in_default-whole_command-clause-usage
returns-in_default-whole_command-clause-usage c = search rules depth 1

pub returns-clause-usage : goal.returns-clause-usage
returns-clause-usage c = λ some none.
    let texts = λ (l : List (Bor (List ℕ))). map (λ w. w.now) l in
    let rest : c.in-Some.rest.now ≡ drop 1 c.args.words.now = sym (ap (λ (l : List (Bor (List ℕ))). drop 1 l) c.in-Some.ensures.cases.0) in
    let shape = c.in-Ok.ensures.shape in
    let told = c.in-Err.ensures.kinds (ap (λ (a : App). is_simple_and_free a) shape ∙ simple) in
    let same = ap (λ (a : App). fault_of a (texts c.in-Some.rest.now)) shape ∙ ap (λ (l : List (Bor (List ℕ))). fault_of command_line (texts l)) rest in
    absurd (c.in_default-kind.not-OutOfMemory (c.kind.ensures ∙ faultless _ c.in-Err.error told (same ∙ none)))

pub returns-in-Ok-try_get_matches_from-clause-faultless : goal.returns-in-Ok-try_get_matches_from-clause-faultless
returns-in-Ok-try_get_matches_from-clause-faultless c =
    let texts = λ (l : List (Bor (List ℕ))). map (λ w. w.now) l in
    let rest : c.in-Some.rest.now ≡ drop 1 c.args.words.now = sym (ap (λ (l : List (Bor (List ℕ))). drop 1 l) c.in-Some.ensures.cases.0) in
    let shape = c.in-Ok.ensures.shape in
    let told = c.in-Ok-try_get_matches_from.ensures.kinds (ap (λ (a : App). is_simple_and_free a) shape ∙ simple) in
    let same = ap (λ (a : App). fault_of a (texts c.in-Some.rest.now)) shape ∙ ap (λ (l : List (Bor (List ℕ))). fault_of command_line (texts l)) rest in
    sym same ∙ told
