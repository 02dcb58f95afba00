-- The instructions of an assembler text (02, Change 4). A form is a pattern: a blank stands for one space or more, W, x, y and z for a hexadecimal digit,
-- @ for a label, every other byte for itself.
-- Assumes nothing.
use Rattle.std.specs.Prelude.{ℕ, suc, ◌+◌, ◌*◌, ◌-◌, ◌<◌, ◌≡◌, Bool, true, false, cond, ◌&&◌, List, [], ◌∷◌, ◌++◌, map, eqb, ltb, length, get_or, drop, replicate}
use Prim.Native.Char.{code}
use Prim.Native.String.{String}
use Rattle.isa.specs.Text.{ascii}
use Rattle.isa.specs.Format.{hex_digit}

-- every byte of the list passes
abbrev pub all : (ℕ → Bool) → List ℕ → Bool
all f [] = true
all f (b ∷ s) = f b && all f s

-- the longest front of bytes that pass, and what stands behind it
abbrev pub front : (ℕ → Bool) → List ℕ → List ℕ
front f [] = []
front f (b ∷ s) = cond (f b) (b ∷ front f s) []

abbrev pub behind : (ℕ → Bool) → List ℕ → List ℕ
behind f [] = []
behind f (b ∷ s) = cond (f b) (behind f s) (b ∷ s)

abbrev pub is_space : ℕ → Bool
is_space b = eqb b (code " ")

abbrev pub spaces : ℕ → List ℕ
spaces n = replicate n (code " ")

-- between two bytes, both counted
abbrev pub between : ℕ → ℕ → ℕ → Bool
between a z b = cond (ltb b a) false (ltb b (suc z))

-- a capital letter or a digit
abbrev pub is_name_byte : ℕ → Bool
is_name_byte b = cond (between (code "0") (code "9") b) true (between (code "A") (code "Z") b)

-- a label is L and one to six capital letters or digits
abbrev pub is_label : List ℕ → Bool
is_label l = eqb (get_or l 0 0) (code "L") && (ltb 1 (length l) && (ltb (length l) 8 && all is_name_byte l))

-- the value of a hexadecimal digit, 16 where the byte is none: digits above 9 are capitals
abbrev pub digit_in : ℕ → ℕ
digit_in b = cond (between (code "0") (code "9") b) (b - code "0") (cond (between (code "A") (code "F") b) (b - 55) 16)

-- ---- forms

pub data Token : Type 0 where
  letter : ℕ → Token
  blank : Token
  -- with what the digit counts in the word
  digit : ℕ → Token
  name : Token

abbrev pub token : ℕ → Token
token b =
    cond (eqb b (code " ")) blank
    (cond (eqb b (code "@")) name
    (cond (eqb b (code "W")) (digit 4096)
    (cond (eqb b (code "x")) (digit 256)
    (cond (eqb b (code "y")) (digit 16)
    (cond (eqb b (code "z")) (digit 1)
    (letter b))))))

-- a form, and the word with zeros for its digits
pub record Form : Type 0 where
  pub base : ℕ
  pub pattern : List Token

abbrev pub form : ℕ → String → Form
form n s = record { base = n; pattern = map token (ascii s) }

-- the instructions
unfoldable pub forms : List Form
forms =
    form 0x1000 "LOAD Rx, yz"
    ∷ form 0x2000 "LOAD Ry, Rz"
    ∷ form 0x3000 "LOAD Rx, [yz]"
    ∷ form 0x3000 "LOAD Rx, [@]"
    ∷ form 0x4000 "STORE Rx, [yz]"
    ∷ form 0x4000 "STORE Rx, [@]"
    ∷ form 0x6000 "Rx = Ry + Rz"
    ∷ form 0x7000 "NEGATE Ry"
    ∷ form 0x8000 "SHIFT Rx RIGHT yz"
    ∷ form 0x9000 "SHIFT Rx LEFT yz"
    ∷ form 0xA000 "Rx = Ry AND Rz"
    ∷ form 0xB000 "Rx = Ry OR Rz"
    ∷ form 0xC000 "Rx = Ry XOR Rz"
    ∷ form 0xD000 "JUMP [yz] IF Rx=R0"
    ∷ form 0xD000 "JUMP [@] IF Rx=R0"
    ∷ form 0xE000 "HALT"
    ∷ form 0 ".word Wxyz"
    ∷ []

-- what is written of a form with these digits, this label, and so many spaces more at each blank and at the end
unfoldable pub made : List Token → List ℕ → List ℕ → List ℕ → List ℕ
made [] ds l gs = spaces (get_or gs 0 0)
made (letter c ∷ t) ds l gs = c ∷ made t ds l gs
made (blank ∷ t) ds l gs = spaces (suc (get_or gs 0 0)) ++ made t ds l (drop 1 gs)
made (digit k ∷ t) ds l gs = hex_digit (get_or ds 0 0) ∷ made t (drop 1 ds) l gs
made (name ∷ t) ds l gs = l ++ made t ds l gs

-- what the digits count
unfoldable pub counted : List Token → List ℕ → ℕ → ℕ
counted [] ds w = w
counted (letter c ∷ t) ds w = counted t ds w
counted (blank ∷ t) ds w = counted t ds w
counted (digit k ∷ t) ds w = counted t (drop 1 ds) (w + k * get_or ds 0 0)
counted (name ∷ t) ds w = counted t ds w

-- the label that a form refers to: none is the empty list
unfoldable pub referred : List Token → List ℕ → List ℕ → List ℕ
referred [] l r = r
referred (letter c ∷ t) l r = referred t l r
referred (blank ∷ t) l r = referred t l r
referred (digit k ∷ t) l r = referred t l r
referred (name ∷ t) l r = referred t l l

-- hexadecimal digits as numbers
abbrev pub Digits : List ℕ → Type 0
Digits ds = (i : ℕ) → get_or ds i 0 < 16

-- the text s, spaces at its end among it, is written by the pattern t: its word w, counted from `base` on, and the label r that it refers to,
-- `before` where the pattern has none
pub record Fits (t : List Token) (base : ℕ) (before s : List ℕ) (w : ℕ) (r : List ℕ) : Type 0 where
  pub digits : List ℕ
  pub label : List ℕ
  pub gaps : List ℕ
  pub hexadecimal : Digits digits
  pub named : is_label label ≡ true
  pub text : s ≡ made t digits label gaps
  pub word : w ≡ counted t digits base
  pub refers : r ≡ referred t label before

-- the form of this number; there is none past the last
abbrev pub form_at : List Form → ℕ → Form
form_at fs f = get_or fs f (form 0 "")

-- the text s is an instruction: of one of the forms, with unused nibbles 0
pub record Instruction (s : List ℕ) (w : ℕ) (r : List ℕ) : Type 0 where
  pub which : ℕ
  pub known : which < length forms
  pub fits : Fits (form_at forms which).pattern (form_at forms which).base [] s w r

-- ---- reading

pub data Found : Type 0 where
  none : Found
  found : ℕ → List ℕ → Found

abbrev pub at_end : List ℕ → Found → Found
at_end [] o = o
at_end (b ∷ s) o = none

-- a text read by a form: the word and the label so far
unfoldable pub scan : List Token → ℕ → List ℕ → List ℕ → Found
scan [] w r s = at_end (behind is_space s) (found w r)
scan (letter c ∷ t) w r [] = none
scan (letter c ∷ t) w r (b ∷ s) = cond (eqb b c) (scan t w r s) none
scan (blank ∷ t) w r [] = none
scan (blank ∷ t) w r (b ∷ s) = cond (is_space b) (scan t w r (behind is_space s)) none
scan (digit k ∷ t) w r [] = none
scan (digit k ∷ t) w r (b ∷ s) = cond (ltb (digit_in b) 16) (scan t (w + k * digit_in b) r s) none
scan (name ∷ t) w r s = cond (is_label (front is_name_byte s)) (scan t w (front is_name_byte s) (behind is_name_byte s)) none

abbrev pub or_else : Found → Found → Found
or_else none o = o
or_else (found w r) o = found w r

-- by the first of the forms that fits
unfoldable pub tried : List Form → List ℕ → Found
tried [] s = none
tried (f ∷ fs) s = or_else (scan f.pattern f.base [] s) (tried fs s)
