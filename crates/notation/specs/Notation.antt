-- Numbers and registers in other notations (isa.rs, `format_hex`, `parse_register`, `to_signed`, `binary_grouped`).
-- Assumes nothing.
use Rattle.std.specs.Prelude.{ℕ, ◌+◌, ◌-◌, ◌/◌, ◌%◌, max, min, cond, List, [], ◌∷◌, ◌++◌, eqb, ltb, ℤ, pos, negsuc, length, get_or, drop, replicate, None, Option, Some}
use Prim.Native.Char.{code}
use Rattle.isa.specs.Sizes.{text_width}
use Rattle.isa.specs.Text.{ascii}
use Rattle.isa.specs.Word.{digit_w, digit_x, digit_y, digit_z}
use Rattle.isa.specs.Format.{hex4}

-- how many digits a word takes without zeros in front
abbrev pub hex_length : ℕ → ℕ
hex_length w = cond (ltb w 16) 1 (cond (ltb w 256) 2 (cond (ltb w 4096) 3 4))

-- how many digits `format_hex` writes: those asked for, and never fewer than the word takes. A text holds 32
abbrev pub hex_width : ℕ → ℕ → ℕ
hex_width w digits = max (min digits text_width) (hex_length w)

-- format!("{:0digits$X}"): the last digits of the word with zeros in front
unfoldable pub format_hex : ℕ → ℕ → List ℕ
format_hex w digits = drop (text_width - hex_width w digits) (replicate 28 (code "0") ++ hex4 w)

-- the value of a hexadecimal digit in either case
unfoldable pub digit_value : ℕ → Option ℕ
digit_value d =
    cond (ltb d (code "0")) None
    (cond (ltb d (code "9" + 1)) (Some (d - code "0"))
    (cond (ltb d (code "A")) None
    (cond (ltb d (code "F" + 1)) (Some (d - code "A" + 10))
    (cond (ltb d (code "a")) None
    (cond (ltb d (code "f" + 1)) (Some (d - code "a" + 10))
    None)))))

-- a register's name in either case: R and one digit, and nothing else
unfoldable pub parse_register : List ℕ → Option ℕ
parse_register s =
    cond (eqb (length s) 2)
    (cond (eqb (get_or s 0 0) (code "R")) (digit_value (get_or s 1 0))
    (cond (eqb (get_or s 0 0) (code "r")) (digit_value (get_or s 1 0))
    None))
    None

-- a word in two's complement: from 32,768 on it stands for itself less 65,536
unfoldable pub signed_of : ℕ → ℤ
signed_of w = cond (ltb w 32768) (pos w) (negsuc (65535 - w))

-- a digit's four bits, high first
abbrev pub bits4 : ℕ → List ℕ
bits4 d = (code "0" + d / 8 % 2) ∷ (code "0" + d / 4 % 2) ∷ (code "0" + d / 2 % 2) ∷ (code "0" + d % 2) ∷ []

-- a word's bits, with a space between its digits
unfoldable pub binary_grouped : ℕ → List ℕ
binary_grouped w = bits4 (digit_w w) ++ ascii " " ++ bits4 (digit_x w) ++ ascii " " ++ bits4 (digit_y w) ++ ascii " " ++ bits4 (digit_z w)
