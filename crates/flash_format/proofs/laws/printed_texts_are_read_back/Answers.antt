use Rattle.flash_format.proofs.PrintedLaws.{hexadecimal_field, name_field, same_hexadecimals, same_names}
use Rattle.flash_format.proofs.laws.printed_texts_are_read_back.Goals as goal

pub returns : goal.returns
returns c = record { names = same_names; name_fields = name_field; numbers = same_hexadecimals; number_fields = hexadecimal_field }
