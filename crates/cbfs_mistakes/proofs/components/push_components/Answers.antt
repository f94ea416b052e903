use Rattle.std.proofs.Common.{◌≡◌, ◌∙◌, ◌⊎◌, ⊎_elim, ℕ, List, [], ◌++◌, Ok, Result, ap}
use Rattle.std.specs.Prelude.{IsErrOf}
use Rattle.std.specs.Global.{Vec}
use lib.Chars.{codes}
use Rattle.flash_device.specs.Regions.{Range, bytes_in}
use Rattle.flash_device.proofs.DeviceLemmas.{honest_still}
use Rattle.flash_map.specs.Regions.{region_of}
use Rattle.flash_map.specs.declared.search.StoreFault.{StoreFault}
use Rattle.flash_map.specs.declared.search.StoreFault.TheVariants as faults
use Rattle.cbfs_requests.specs.Requests.{fault_or}
use Rattle.cbfs_mistakes.specs.Components.{component_names, components_line}
use Rattle.cbfs_mistakes.specs.NameLines.{names_line}
use Rattle.cbfs_mistakes.specs.Near.{near_first}
use Rattle.cbfs_mistakes.proofs.AreaNames.{names_of}
use Rattle.cbfs_mistakes.proofs.components.push_components.Goals as goal

abbrev text : List ℕ
text = codes "cbfstool: its components are: "

-- the line of a range, and of the region that it is
abbrev range_line : List ℕ → List ℕ → Range → List ℕ
range_line image given range = names_line text (near_first given (component_names (bytes_in range image)))

line_by : (image area given : List ℕ) (range : Range) → Ok range ≡ region_of image area → range_line image given range ≡ components_line image area given
line_by image area given range is = ap (λ (r : Result Range StoreFault). fault_or (λ fault. []) r (range_line image given)) is

line_of : (image area given : List ℕ) (range : Range) (names sorted : List (Vec ℕ))
    → (let r : Result Range StoreFault = Ok range in IsErrOf r faults.Device ⊎ (r ≡ region_of image area))
    → names_of names ≡ component_names (bytes_in range image) → names_of sorted ≡ near_first given (names_of names)
    → names_line text (names_of sorted) ≡ components_line image area given
line_of image area given range names sorted answer told order =
    ap (names_line text) (order ∙ ap (near_first given) told)
    ∙ ⊎_elim (λ fault. absurd cc) (λ is. line_by image area given range is) answer

pub returns-clause-line : goal.returns-clause-line
returns-clause-line g c = λ h.
    let read = c.region.ensures.calls.device in
    let line = line_of c.args.paged.now.device.content c.args.area.now c.args.given.now c.in-Ok.range c.in_ok-names.names.items c.in_ok-sorted.sorted.items
    (c.in-Ok.ensures.answer h)
    (rw (read.unchanged h) at (c.in_ok-names.ensures.names (honest_still read.calls.same_honesty h)))
    (rw c.as_slice.ensures.value at c.in_ok-sorted.ensures) in
    c.in_ok-push_names.ensures
    ∙ ap (λ l. c.args.out.now.items ++ names_line text (names_of l)) c.as_slice-2.ensures.value
    ∙ ap (λ l. c.args.out.now.items ++ l) line
