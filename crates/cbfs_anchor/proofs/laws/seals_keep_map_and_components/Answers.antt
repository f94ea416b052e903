use Rattle.std.proofs.Common.{◌≡◌, Bool, true, false, refl}
use Rattle.std.specs.Prelude.{◌||◌, ◌&&◌, not}
use Rattle.cbfs_anchor.proofs.SealLaws.{kept_beside}
use Rattle.cbfs_anchor.specs.Layout.{digests_range}
use Rattle.cbfs_anchor.specs.Places.{share_bytes}
use Rattle.cbfs_anchor.proofs.laws.seals_keep_map_and_components.Goals as goal

first_false : (a b : Bool) → (a || b) ≡ false → a ≡ false
first_false false b is = refl
first_false true b is = absurd cc

second_false : (a b c : Bool) → (a || (not b && c)) ≡ false → b ≡ false → c ≡ false
second_false a b false is outside = refl
second_false a true true is outside = absurd cc
second_false true false true is outside = absurd cc
second_false false false true is outside = absurd cc

pub returns-clause-map : goal.returns-clause-map
returns-clause-map c = λ place a message map image lies apart.
    kept_beside a message map image lies place.map (first_false (share_bytes (digests_range a) place.map) _ apart)

pub returns-clause-components : goal.returns-clause-components
returns-clause-components c = λ place a message map image lies apart outside.
    kept_beside a message map image lies place.coreboot (second_false (share_bytes (digests_range a) place.map) place.in_component _ apart outside)
