-- The address that LOAD [yz] and STORE reach (01, section 2): for ticks, marks and the direct engine alike.
-- Assumes nothing.
use Rattle.std.specs.Prelude.{ℕ}
use Rattle.isa.specs.Word.{byte_yz}

-- how many bytes an address of memory has in a history record (section 7) and in a report (section 6: kinds 02, 06 and 07, and MAR)
abbrev pub address_width : ℕ
address_width = 1

-- of the word in IR
abbrev pub reached_address : ℕ → ℕ
reached_address w = byte_yz w
