use Rattle.std.proofs.Common.{◌∙◌, ◌+◌, Option, ap, sym}
use Rattle.std.specs.Option.{option_map}
use Rattle.flash_format.specs.Made.{algorithm_row, hash_len}
use Rattle.flash_format.specs.declared.digest.Algorithm.{Algorithm}
use Rattle.cbfs_walk.specs.Hashes.{hashed_by}
use Rattle.cbfs_walk.proofs.Digests.{algorithm-hashed}
use Rattle.cbfs_edit.proofs.addition.attribute_len.Goals as goal

pub returns-in-Some-clause-is : goal.returns-in-Some-clause-is
returns-in-Some-clause-is c = λ content.
    ap (λ n. 12 + n) (c.digest_len.ensures ∙ ap (λ (a : Algorithm). (algorithm_row a).len) (sym (algorithm-hashed c.in-Some.algorithm content)))
    ∙ ap (λ (found : Option Algorithm). hash_len (option_map (λ a. hashed_by a content) found)) (sym c.in-Some.is ∙ c.algorithm.ensures)
