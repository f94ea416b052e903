-- Printed names of digest algorithms: this project's own texts.
use Rattle.std.specs.Prelude.{ℕ, List}
use lib.Chars.{codes}
use Rattle.cbfs_anchor.specs.declared.algorithm.Algorithm.{Algorithm}
use Rattle.cbfs_anchor.specs.declared.algorithm.Algorithm.TheVariants.{Sha1, Sha256, Sha512, Sha224, Sha384}

abbrev pub name_of : Algorithm → List ℕ
name_of Sha1 = codes "sha1"
name_of Sha256 = codes "sha256"
name_of Sha512 = codes "sha512"
name_of Sha224 = codes "sha224"
name_of Sha384 = codes "sha384"
