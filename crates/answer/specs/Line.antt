-- The lines that a program writes, each with a line feed: of a refused call "refused N" (01, section 6), of a replay "N passed, M failed".
-- Numbers are decimal; one of 64 bits has no more than 20 digits.
-- Assumes nothing.
use Rattle.std.specs.Prelude.{ℕ, List, ◌++◌}
use Rattle.isa.specs.Text.{ascii}
use Rattle.isa.specs.Format.{decimal}

unfoldable pub refusal_line : ℕ → List ℕ
refusal_line n = ascii "refused " ++ (decimal 20 n ++ ascii "\n")

unfoldable pub counts_line : ℕ → ℕ → List ℕ
counts_line p f = (decimal 20 p ++ ascii " passed, ") ++ (decimal 20 f ++ ascii " failed\n")
