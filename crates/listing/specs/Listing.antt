-- The listing of a program image (01, section 7; disasm.rs, `disassemble_image`; 02, Change 4): a head, then a line of 45 bytes for each word.
-- Assumes nothing.
use Rattle.std.specs.Prelude.{ℕ, ◌+◌, ◌*◌, ◌/◌, ◌%◌, Bool, true, false, cond, List, [], ◌∷◌, ◌++◌, eqb, ltb, length, get_or, None, Option, Some, Ok, is_some}
use Rattle.isa.specs.declared.opcode.Opcode.{Opcode}
use Rattle.isa.specs.declared.opcode.Opcode.TheVariants.{LoadImmediate, LoadRegister, LoadMemory, StoreMemory, Add, Negate}
use Rattle.isa.specs.declared.opcode.Opcode.TheVariants.{ShiftRight, ShiftLeft, And, Or, Xor, Jump, Halt}
use Rattle.isa.specs.Text.{ascii, spaced}
use Rattle.isa.specs.Word.{byte_yz, decode_word}
use Rattle.isa.specs.Nibbles.{loose}
use Rattle.isa.specs.Format.{fill, decimal}
use Rattle.encoding.specs.Bytes.{over, each_from, numbers}
use Rattle.encoding.specs.Answer.{Outcome, outcome, Told, unless_refused}
use Rattle.encoding.specs.Refusal.{told}
use Rattle.disasm.specs.Disassembly.{disassemble_text}
use Rattle.listing.specs.declared.labels.Reference.{Reference}
use Rattle.listing.specs.declared.labels.Reference.TheVariants.{Loads, Stores, Jumps}

-- the words of an image that has a listing are at most 256 (01, section 1), since its addresses have two digits: not by the size of memory
abbrev pub listing_words : ℕ
listing_words = 256

-- LOAD from memory, STORE and JUMP refer to the address yz
abbrev pub reference_of : Option Opcode → Option Reference
reference_of (Some LoadImmediate) = None
reference_of (Some LoadRegister) = None
reference_of (Some LoadMemory) = Some Loads
reference_of (Some StoreMemory) = Some Stores
reference_of (Some Add) = None
reference_of (Some Negate) = None
reference_of (Some ShiftRight) = None
reference_of (Some ShiftLeft) = None
reference_of (Some And) = None
reference_of (Some Or) = None
reference_of (Some Xor) = None
reference_of (Some Jump) = Some Jumps
reference_of (Some Halt) = None
reference_of None = None

abbrev pub refers : Option Opcode → Bool
refers d = is_some (reference_of d)

-- the word w refers to address a
abbrev pub refers_to : ℕ → ℕ → Bool
refers_to w a = cond (refers (decode_word w)) (eqb (byte_yz w) a) false

-- one of the words does
unfoldable pub referenced : List ℕ → ℕ → Bool
referenced [] a = false
referenced (w ∷ ws) a = cond (refers_to w a) true (referenced ws a)

-- the addresses with a label: 0, and each that a word refers to
unfoldable pub labelled : List ℕ → ℕ → Bool
labelled ws a = cond (eqb a 0) true (referenced ws a)

-- what a word is listed as: a loose one is data, as one without an opcode is (02, Change 4)
abbrev pub listed_as : ℕ → Option Opcode
listed_as w = cond (loose w) None (decode_word w)

-- the text of a word that refers to no address: data, or its disassembly as it is
abbrev pub other_by : Option Opcode → ℕ → List ℕ
other_by None w = fill w (ascii ".word Wxyz")
other_by (Some o) w = disassemble_text w

unfoldable pub other_text : ℕ → List ℕ
other_text w = other_by (listed_as w) w

-- the text of a word, by how it refers to an address: a reference inside the image is a label
abbrev pub reference_text : Bool → Option Reference → ℕ → List ℕ
reference_text inside (Some Loads) w = fill w (ascii (cond inside "LOAD  Rx, [Lyz]" "LOAD  Rx, [yz]"))
reference_text inside (Some Stores) w = fill w (ascii (cond inside "STORE Rx, [Lyz]" "STORE Rx, [yz]"))
reference_text inside (Some Jumps) w = fill w (ascii (cond inside "JUMP  [Lyz] IF Rx=R0" "JUMP  [yz] IF Rx=R0"))
reference_text inside None w = other_text w

-- the same in an image of n words
unfoldable pub listing_text : ℕ → ℕ → List ℕ
listing_text n w = reference_text (ltb (byte_yz w) n) (reference_of (decode_word w)) w

unfoldable pub label_text : Bool → ℕ → List ℕ
label_text true a = fill a (ascii "Lyz:")
label_text false a = []

-- a line, in an image of n words, for word w at address a, with a label or without: label in 8 columns, text in 26, then address and word
unfoldable pub line_front : ℕ → Bool → ℕ → ℕ → List ℕ
line_front n on a w = spaced 8 (label_text on a) ++ spaced 26 (listing_text n w)

unfoldable pub line_back : ℕ → ℕ → List ℕ
line_back a w = fill a (ascii "; yz  ") ++ fill w (ascii "Wxyz\n")

unfoldable pub line : ℕ → Bool → ℕ → ℕ → List ℕ
line n on a w = line_front n on a w ++ line_back a w

unfoldable pub line_of : List ℕ → ℕ → List ℕ
line_of ws a = line (length ws) (labelled ws a) a (get_or ws a 0)

unfoldable pub words_text : ℕ → List ℕ
words_text n = cond (eqb n 1) (ascii " word of machine code.\n") (ascii " words of machine code.\n")

unfoldable pub head_start : List ℕ
head_start = ascii "; Disassembled from "

unfoldable pub head_end : List ℕ
head_end = ascii "; Labels were generated for the addresses this program refers to.\n; Edit this assembly and press Assemble to build a new machine code image.\n\n"

-- the head of a listing of n words
unfoldable pub head_of : ℕ → List ℕ
head_of n = head_start ++ (decimal 3 n ++ (words_text n ++ head_end))

unfoldable pub listing_of : List ℕ → List ℕ
listing_of ws = head_of (length ws) ++ each_from (line_of ws) 0 (length ws)

-- the length of a head, and of a listing of n words
abbrev pub head_length : ℕ → ℕ
head_length n = cond (eqb n 1) 186 (cond (ltb n 10) 187 (cond (ltb n 100) 188 189))

abbrev pub listing_length : ℕ → ℕ
listing_length n = head_length n + 45 * n

-- refused 1: more words than a listing has; 5: the buffer is shorter than the listing (01, section 1)
abbrev pub listing_refusal : ℕ → ℕ → ℕ
listing_refusal n room = cond (ltb listing_words n) 1 (cond (ltb room (listing_length n)) 5 0)

-- the listing is written from the start of the buffer, and what stands behind it is kept
unfoldable pub listing_outcome : List ℕ → List ℕ → Outcome Told
listing_outcome ws out =
    unless_refused (listing_refusal (length ws) (length out)) out
    (outcome (told (Ok (listing_length (length ws)))) (over out 0 (listing_of ws)))

-- the listing of words in bytes, high byte first: refused 1 by whole words, then 5, then 6 for an odd byte
abbrev pub bytes_refusal : ℕ → ℕ → ℕ
bytes_refusal n room = cond (eqb (listing_refusal (n / 2) room) 0) (cond (eqb (n % 2) 0) 0 6) (listing_refusal (n / 2) room)

abbrev pub bytes_listing : List ℕ → List ℕ
bytes_listing image = listing_of (numbers 2 (length image / 2) image)

unfoldable pub bytes_outcome : List ℕ → List ℕ → Outcome Told
bytes_outcome image out =
    unless_refused (bytes_refusal (length image) (length out)) out
    (outcome (told (Ok (listing_length (length image / 2)))) (over out 0 (bytes_listing image)))
