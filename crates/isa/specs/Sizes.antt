-- The sizes of the machine and of its texts (01, sections 1 and 2; isa.rs).
-- Assumes nothing.
use Rattle.std.specs.Prelude.{ℕ}

-- words of memory
abbrev pub memory_words : ℕ
memory_words = 256

abbrev pub register_count : ℕ
register_count = 16

-- the bytes that a text has room for
abbrev pub text_width : ℕ
text_width = 32
