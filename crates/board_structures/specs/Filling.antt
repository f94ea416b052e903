-- Areas without content: erased (0xff) or cleared (0x00) throughout.
use Rattle.std.specs.Prelude.{ℕ, ◌+◌, ◌/◌, Bool, List, take, ◌==◌}
use Rattle.std.specs.List.{list_all}

abbrev pub each_byte_is : ℕ → List ℕ → Bool
each_byte_is byte x = list_all (λ b. b == byte) x

-- the largest number of bytes that one call reads
abbrev pub page_len : ℕ
page_len = 4096

abbrev pub first_page : List ℕ → List ℕ
first_page x = take page_len x

-- the number of reads for n bytes
abbrev pub page_reads : ℕ → ℕ
page_reads n = (n + 4095) / 4096
