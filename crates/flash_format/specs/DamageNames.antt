-- Printed names of the checks of an entry: this project's own texts.
use Rattle.std.specs.Prelude.{ℕ, List}
use lib.Chars.{codes}
use Rattle.flash_format.specs.declared.head.DamageKind.{DamageKind}
use Rattle.flash_format.specs.declared.head.DamageKind.TheVariants.{Offset, AttrOffset, Extent, Name, AttrLength}

abbrev pub damage_name : DamageKind → List ℕ
damage_name Offset = codes "offset"
damage_name AttrOffset = codes "attributes"
damage_name Extent = codes "extent"
damage_name Name = codes "name"
damage_name AttrLength = codes "attribute length"
