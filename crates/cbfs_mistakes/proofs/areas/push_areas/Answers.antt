use Rattle.std.proofs.Common.{◌≡◌, ◌∙◌, ℕ, List, [], ◌++◌, Some, ap}
use Rattle.std.specs.Global.{Vec}
use Rattle.std.specs.Option.{option_map_or}
use lib.Chars.{codes}
use Rattle.flash_device.proofs.DeviceLemmas.{honest_still}
use Rattle.flash_map.specs.Fmap.{found_in}
use Rattle.flash_map.specs.declared.search.FoundMap.{FoundMap}
use Rattle.cbfs_mistakes.specs.Areas.{area_names, areas_line}
use Rattle.cbfs_mistakes.specs.NameLines.{names_line}
use Rattle.cbfs_mistakes.specs.Near.{near_first}
use Rattle.cbfs_mistakes.proofs.AreaNames.{names_of}
use Rattle.cbfs_mistakes.proofs.areas.push_areas.Goals as goal

-- the line of the map that the search finds
line_of : (image given : List ℕ) (m : FoundMap) (names sorted : List (Vec ℕ)) → Some m ≡ found_in image
    → names_of names ≡ area_names image m → names_of sorted ≡ near_first given (names_of names)
    → names_line (codes "cbfstool: its areas are: ") (names_of sorted) ≡ areas_line image given
line_of image given m names sorted found told order =
    ap (names_line (codes "cbfstool: its areas are: ")) (order ∙ ap (near_first given) told)
    ∙ ap (λ at. option_map_or (λ (m : FoundMap). names_line (codes "cbfstool: its areas are: ") (near_first given (area_names image m))) at []) found

pub returns-clause-line : goal.returns-clause-line
returns-clause-line g c = λ h.
    let read = c.find_fmap.ensures.calls.read.device in
    let line = line_of c.args.paged.now.device.content c.args.given.now c.in-Some.map c.in_ok-names.names.items c.in_ok-sorted.sorted.items
    (rw c.in-Some.is at (c.in_ok-map.ensures.found h))
    (rw (read.unchanged h) at (c.in_ok-names.ensures.names (honest_still read.calls.same_honesty h)))
    (rw c.as_slice.ensures.value at c.in_ok-sorted.ensures) in
    c.in_ok-push_names.ensures
    ∙ ap (λ l. c.args.out.now.items ++ names_line (codes "cbfstool: its areas are: ") (names_of l)) c.as_slice-2.ensures.value
    ∙ ap (λ l. c.args.out.now.items ++ l) line
