-- Words, bytes and registers as texts (isa.rs, `format_word`, `format_byte`, `register_name`), templates for texts, and numbers in decimal.
-- Assumes nothing.
use Rattle.std.specs.Prelude.{ℕ, zero, suc, ◌+◌, ◌*◌, ◌/◌, ◌%◌, cond, List, [], ◌∷◌, ◌++◌, map, eqb, ltb, get_or}
use Prim.Native.Char.{code}
use Rattle.isa.specs.Text.{ascii}
use Rattle.isa.specs.Word.{digit_w, digit_x, digit_y, digit_z}

-- the uppercase hexadecimal digit of a number below 16
abbrev pub hex_digit : ℕ → ℕ
hex_digit n = get_or (ascii "0123456789ABCDEF") n 0

-- a byte's two digits as one number, the high one in the high byte (02, Change 3)
unfoldable pub digit_pair : ℕ → ℕ
digit_pair b = hex_digit (b / 16) * 256 + hex_digit (b % 16)

-- the entry of a table of pairs for a byte
unfoldable pub entry_of : List ℕ → ℕ → ℕ
entry_of pairs b = get_or pairs b 0

-- a word as four digits: format!("{:04X}")
abbrev pub hex4 : ℕ → List ℕ
hex4 w = hex_digit (digit_w w) ∷ hex_digit (digit_x w) ∷ hex_digit (digit_y w) ∷ hex_digit (digit_z w) ∷ []

-- a byte as two digits: format!("{:02X}")
abbrev pub hex2 : ℕ → List ℕ
hex2 b = hex_digit (digit_y b) ∷ hex_digit (digit_z b) ∷ []

-- what stands in a text for a byte of its template, where the word has these digits
abbrev pub fill_byte : List ℕ → ℕ → ℕ
fill_byte digits b =
    cond (eqb b (code "W")) (get_or digits 0 0)
    (cond (eqb b (code "x")) (get_or digits 1 0)
    (cond (eqb b (code "y")) (get_or digits 2 0)
    (cond (eqb b (code "z")) (get_or digits 3 0)
    b)))

-- a template, in which W, x, y and z stand for the word's digits
unfoldable pub fill : ℕ → List ℕ → List ℕ
fill w template = map (fill_byte (hex4 w)) template

-- the name of a register: its low digit counts
abbrev pub register_name : ℕ → List ℕ
register_name r = code "R" ∷ hex_digit (digit_z r) ∷ []

-- a number in decimal, where it has k digits at most
unfoldable pub decimal : ℕ → ℕ → List ℕ
decimal zero n = []
decimal (suc k) n = cond (ltb n 10) ((code "0" + n) ∷ []) (decimal k (n / 10) ++ ((code "0" + n % 10) ∷ []))
