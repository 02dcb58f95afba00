-- Texts: bytes, quoted strings, and the structs that hold them (01, section 10: 32 bytes and a length).
-- Assumes nothing.
use Rattle.std.specs.Prelude.{ℕ, ◌-◌, cond, List, [], ◌∷◌, ◌++◌, eqb, length, take, replicate}
use Prim.Native.Char.{code}
use Prim.Native.String.{String, [] as none, ◌∷◌ as ◌then◌}
use Rattle.isa.specs.Sizes.{text_width}
use Rattle.isa.specs.declared.text.FixedText.{FixedText}

-- the codes of the characters of a quoted text
abbrev pub ascii : String → List ℕ
ascii none = []
ascii (c then s) = code c ∷ ascii s

-- xs in a field of n bytes, zeros after it
unfoldable pub padded : ℕ → List ℕ → List ℕ
padded n xs = xs ++ replicate (n - length xs) 0

-- xs in a field of n bytes, spaces after it: format!("{:<n}")
abbrev pub spaced : ℕ → List ℕ → List ℕ
spaced n xs = xs ++ replicate (n - length xs) (code " ")

-- a list with x in front, where a space in front of nothing is nothing
abbrev pub unless_space : ℕ → List ℕ → List ℕ
unless_space x [] = cond (eqb x (code " ")) [] (x ∷ [])
unless_space x (y ∷ ys) = x ∷ y ∷ ys

-- xs without the spaces at its end
unfoldable pub trimmed : List ℕ → List ℕ
trimmed [] = []
trimmed (x ∷ xs) = unless_space x (trimmed xs)

-- a text of at most n bytes
unfoldable pub fixed_text : (n : ℕ) → List ℕ → FixedText n
fixed_text n xs = record { bytes = padded n xs; len = length xs }

-- the texts, with room for 32 bytes: the struct that holds xs, zeros past it
abbrev pub Text : Type 0
Text = FixedText text_width

abbrev pub text : List ℕ → Text
text xs = fixed_text text_width xs

-- the longer fixed texts
abbrev pub long_text : List ℕ → FixedText 80
long_text xs = fixed_text 80 xs

-- the live bytes of a text
unfoldable pub text_of : Text → List ℕ
text_of t = take t.len t.bytes
