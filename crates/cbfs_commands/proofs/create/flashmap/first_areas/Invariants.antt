use Rattle.std.proofs.Common.{◌≡◌, ◌-◌, ◌++◌, length, map, drop, replicate, None, IsTrue}
use lib.Chars.{codes}
use Rattle.flash_format.specs.Flashmap.{fmap_head_len, areas_from}
use Rattle.flash_device.specs.Device.{Reads}
use Rattle.flash_map.specs.Fmap.{first_area}
use Rattle.cbfs_commands.proofs.create.flashmap.first_areas.Given as goal

abbrev pub invariant-loop-i : goal.invariant-loop-i
invariant-loop-i g l = let facts = g.S.Source.facts in Reads l.i 0 (facts l.initial.source) (facts l.source)
    × (IsTrue (facts l.initial.source).honest → (l.found.map ≡ first_area (areas_from l.i (drop fmap_head_len (facts l.initial.source).content)) (codes "FMAP"))
    × (l.found.regions ≡ map (first_area (areas_from l.i (drop fmap_head_len (facts l.initial.source).content))) (map (λ n. n.now) l.names) ++ replicate (16 - length l.names) None))
