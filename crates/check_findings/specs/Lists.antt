-- Lists of at most one element, lists that grow, and parts of results.
use Rattle.std.specs.Prelude.{◌≡◌, ℕ, Bool, List, Result, [], ◌∷◌, ◌++◌, if◌then◌else◌, IfOk, OnOk}
use Rattle.flash_device.specs.Pages.{Pages, OnHonest}
use Rattle.std.specs.Global.{Vec}

abbrev pub only_if : {C : Type 0} → Bool → C → List C
only_if condition c = if condition then c ∷ [] else []

-- a success adds these items at the end of a vector
abbrev pub Gains : {C T E : Type 0} → Vec C → Vec C → Result T E → List C → Type 0
Gains old new result items = OnOk result (new.items ≡ old.items ++ items)

-- on an honest device, this part of a success is a function of the image
abbrev pub GivesPart : {F T E P : Type 0} → Pages F → Result T E → (T → P) → (List ℕ → P) → Type 0
GivesPart old result part value =
    OnHonest old.device (λ image. IfOk result (λ given. part given ≡ value image))
