use Rattle.cbfs_walk.proofs.FirstComponents.{found_shape, found_first, first_found, listed_found}
use Rattle.cbfs_walk.proofs.laws.listed_components_are_found.Goals as goal

pub returns : goal.returns
returns c = record { first = λ x name d. (λ e. (found_shape x name d e, found_first x name d e), λ k. first_found x name d k.0 k.1); listed = listed_found }
