use Rattle.std.proofs.Common.{◌≡◌, true, false, lit<, refl}
use Rattle.board_structures.specs.declared.descriptor.Descriptor.TheVariants as descriptors
use Rattle.board_structures.specs.declared.gbb.Gbb.TheVariants as blocks
use Rattle.board_findings.specs.StructureLaws.{after_erasure, before_erasure}
use Rattle.board_findings.specs.declared.structure.Structure.TheVariants as structures
use Rattle.board_findings.proofs.LostStructures.{is_there}
use Rattle.board_findings.proofs.laws.erased_descriptors_are_lost.Goals as goal

pub returns : goal.returns
returns c =
    let law = c.lost_structures_are_gone.ensures before_erasure after_erasure in
    record {
      gone = (law structures.FlashDescriptor).1 (record {
        was_there = (descriptors.NoSignature, (0, lit< tt, refl), λ e. cc);
        is_gone = λ there. let shown : false ≡ true = is_there structures.FlashDescriptor after_erasure there in cc;
        is_asked = tt;
      });
      kept = λ listed. ((law structures.Gbb).0 listed).is_gone (blocks.Sound 0, (1, lit< tt, refl), λ e. cc);
    }
