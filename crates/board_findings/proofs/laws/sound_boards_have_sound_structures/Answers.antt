use Rattle.std.proofs.Common.{subst}
use Rattle.flash_device.specs.Regions.{bytes_in}
use Rattle.board_structures.specs.Descriptors.{descriptor_in}
use Rattle.board_findings.specs.BoardFindings.{areas_in, differences, slot_body}
use Rattle.board_findings.proofs.SoundParts.{AreFine, descriptor_fine, either_slot, gbb_fine, firmware_fine, header_fine, no_difference, parts_fine, slot_fine, table_fine, usable_table, vector_fine}
use Rattle.board_findings.proofs.laws.sound_boards_have_sound_structures.Goals as goal

pub returns : goal.returns
returns c = λ b fine.
    let parts = parts_fine b fine in
    record {
      descriptor = λ r is. c.sound_descriptors_have_a_signature.ensures (bytes_in r b.image) (descriptor_fine b r is parts.descriptor).0;
      regions = λ r is table described region a used there.
          let fine : AreFine (differences b.areas (descriptor_in (bytes_in r b.image))) = (descriptor_fine b r is parts.descriptor).1 in
          c.areas_without_difference_are_their_regions.ensures region table (areas_in b.areas) a
          (no_difference b.areas table region (subst (λ state. AreFine (differences b.areas state)) described fine)) used there;
      partition_table = λ r is. c.sound_partition_tables_have_a_marker.ensures (bytes_in r b.image) (table_fine b r is parts.partition_table);
      reset_vector = λ r is at_end ends. c.sound_reset_vectors_have_code.ensures b.image (vector_fine b r is at_end ends parts.reset_vector);
      firmware_table = λ r is at_end ends. usable_table b.image (c.sound_tables_are_usable.ensures b.image) (firmware_fine b r is at_end ends parts.firmware_table);
      master_header = λ r placed is ends there.
          c.sound_headers_are_of_their_area.ensures r.start placed.start (bytes_in r b.image) (header_fine b r placed is ends there parts.master_header);
      gbb = λ r is. c.sound_blocks_are_usable.ensures (bytes_in r b.image) (gbb_fine b r is parts.gbb);
      slots = λ slot r is. c.signed_slots_are_covered.ensures (slot_body b slot) (bytes_in r b.image) (slot_fine b slot r is (either_slot b parts slot));
    }
