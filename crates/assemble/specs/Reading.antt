-- What the code of the assembler holds while it reads: positions for what is left, and a label as its key.
-- Assumes nothing.
use Rattle.std.specs.Prelude.{ℕ, ◌+◌, ◌*◌, ◌-◌, ◌≤◌, ◌<◌, ◌≡◌, Bool, cond, not, List, [], ◌∷◌, map, eqb, ltb, length, get_or, take, drop}
use Rattle.std.specs.Prelude.{Option, Some, None, IfSome, Result, Ok, Err}
use Prim.Native.Char.{code}
use Rattle.encoding.specs.Bytes.{member}
use Rattle.encoding.specs.declared.refusal.Refusal.{Refusal}
use Rattle.encoding.specs.declared.refusal.Refusal.TheVariants.{Label}
use Rattle.listing.specs.Listing.{listing_words}
use Rattle.assemble.specs.Grammar.{front, behind, is_space, is_name_byte, is_label, digit_in}
use Rattle.assemble.specs.Grammar.{Token, letter, blank, digit, name, forms, Found, none, found, tried}
use Rattle.assemble.specs.Lines.{Line, bad, empty, word, starts_labelled, read_line}
use Rattle.assemble.specs.Assembly.{lines, of_words, key, missing, placed, resolved, resolve_all, label_refusal}
use Rattle.assemble.specs.Answer.{answered}
use Rattle.assemble.specs.declared.forms.Seen.{Seen}
use Rattle.assemble.specs.declared.forms.Spot.{Spot}
use Rattle.assemble.specs.declared.lines.Entry.{Entry}
use Rattle.assemble.specs.declared.lines.Row.{Row}
use Rattle.assemble.specs.declared.lines.Row.TheVariants.{Empty, Word}
use Rattle.assemble.specs.declared.text.Bounds.{Bounds}
use Rattle.assemble.specs.declared.Assembled.{Assembled}

-- ---- bytes that are passed over

abbrev pub in_line : ℕ → Bool
in_line b = not (eqb b (code "\n"))

-- the place e behind the bytes from `at` on that pass
pub record Passed (f : ℕ → Bool) (s : List ℕ) (at e : ℕ) : Type 0 where
  pub ahead : at ≤ e
  pub inside : e ≤ length s
  pub passed : take (e - at) (drop at s) ≡ front f (drop at s)
  pub left : drop e s ≡ behind f (drop at s)

-- a test that holds of the bytes that do not pass
abbrev pub Ends : (ℕ → Bool → Type 0) → (ℕ → Bool) → Type 0
Ends test f = (b : ℕ) (r : Bool) → test b r → r ≡ not (f b)

-- ---- digits and labels

abbrev pub hex_value : ℕ → Option ℕ
hex_value b = cond (ltb (digit_in b) 16) (Some (digit_in b)) None

-- the label's key, where the bytes are a label
abbrev pub label_key : List ℕ → Option ℕ
label_key l = cond (is_label l) (Some (key l)) None

-- ---- a form

abbrev pub seen : Found → Option Seen
seen none = None
seen (found w r) = Some (record { word = w; refers = key r })

abbrev pub ended : List ℕ → ℕ → ℕ → Option Seen
ended [] w k = Some (record { word = w; refers = k })
ended (b ∷ s) w k = None

-- reading by a form, as `scan`, with the label so far as its key
unfoldable pub keyed : List Token → ℕ → ℕ → List ℕ → Option Seen
keyed [] w k s = ended (behind is_space s) w k
keyed (letter c ∷ t) w k [] = None
keyed (letter c ∷ t) w k (b ∷ s) = cond (eqb b c) (keyed t w k s) None
keyed (blank ∷ t) w k [] = None
keyed (blank ∷ t) w k (b ∷ s) = cond (is_space b) (keyed t w k (behind is_space s)) None
keyed (digit m ∷ t) w k [] = None
keyed (digit m ∷ t) w k (b ∷ s) = cond (ltb (digit_in b) 16) (keyed t (w + m * digit_in b) k s) None
keyed (name ∷ t) w k s = cond (is_label (front is_name_byte s)) (keyed t w (key (front is_name_byte s)) (behind is_name_byte s)) None

-- the rest of the form, read from a spot on
abbrev pub after : Option Spot → List Token → List ℕ → Option Seen
after None t s = None
after (Some n) t s = keyed t n.word n.refers (drop n.at s)

-- where one token of a form leads, if it is there
pub record Next (k : Token) (s : List ℕ) (spot : Spot) (n : Option Spot) : Type 0 where
  pub inside : IfSome n (λ m. m.at ≤ length s)
  pub light : IfSome n (λ m. m.word ≤ spot.word + 65536)
  pub reads : (t : List Token) → keyed (k ∷ t) spot.word spot.refers (drop spot.at s) ≡ after n t s

-- ---- a line

abbrev pub entry : ℕ → ℕ → ℕ → Entry
entry l w r = record { label = l; word = w; refers = r }

abbrev pub row : Line → Option Row
row bad = None
row empty = Some Empty
row (word l w r) = Some (Word (entry (key l) w (key r)))

-- what is seen behind a label
abbrev pub row_seen : ℕ → Option Seen → Option Row
row_seen l None = None
row_seen l (Some n) = Some (Word (entry l n.word n.refers))

-- behind a label's colon
abbrev pub row_after : ℕ → List ℕ → Option Row
row_after l s = cond (is_space (get_or s 0 0)) (row_seen l (seen (tried forms (behind is_space s)))) None

-- the key of the label with a colon that a line begins with
abbrev pub colon_key : List ℕ → Option ℕ
colon_key s = cond (starts_labelled s) (Some (key (front is_name_byte s))) None

-- ---- the lines

-- the line from `at` on, and where the next begins
pub record LineAt (s : List ℕ) (at : ℕ) (n : Bounds) : Type 0 where
  pub begun : at ≤ n.end
  pub inside : n.end ≤ length s
  pub further : at < n.next
  pub within : n.next ≤ length s
  pub line : take (n.end - at) (drop at s) ≡ front in_line (drop at s)
  pub rest : drop n.next s ≡ drop 1 (behind in_line (drop at s))

-- what is read of the text from `at` on
abbrev pub lines_from : List ℕ → ℕ → List Line
lines_from t at = map read_line (lines (drop at t))

-- the entries of the lines that take an address
abbrev pub entries_of : List Line → List Entry
entries_of ls = of_words (λ l w r. entry (key l) w (key r)) ls

-- the first n entries are what is wanted of the lines
pub record Held (ls : List Line) (n : ℕ) (es : List Entry) : Type 0 where
  pub few : n ≤ listing_words
  pub room : length es ≡ listing_words
  pub entries : take n es ≡ entries_of ls

-- ---- the answer

-- labels, words and references of entries
abbrev pub labels_in : List Entry → List ℕ
labels_in es = map (λ (e : Entry). e.label) es

abbrev pub words_in : List Entry → List ℕ
words_in es = map (λ (e : Entry). e.word) es

abbrev pub refers_in : List Entry → List ℕ
refers_in es = map (λ (e : Entry). e.refers) es

-- entries that give an image of 16-bit words
pub record Linkable (es : List Entry) : Type 0 where
  pub few : length es ≤ listing_words
  pub small : (i : ℕ) → i < length es → resolved (labels_in es) (get_or (words_in es) i 0) (get_or (refers_in es) i 0) < 65536

-- the first place of a key, if it is there
abbrev pub place_of : ℕ → List ℕ → Option ℕ
place_of k ks = cond (member k ks) (Some (placed k ks)) None

-- the address of the label of a key, which is added to a word; 0 for no label
abbrev pub address_of : List ℕ → ℕ → Result ℕ Refusal
address_of ks k = cond (eqb k 0) (Ok 0) (cond (member k ks) (Ok (placed k ks)) (Err Label))

-- words with the addresses that they refer to, where every label is there
unfoldable pub resolved_as : List Entry → Result Assembled Refusal
resolved_as es = answered (cond (missing (refers_in es) (labels_in es)) 12 0) (resolve_all (labels_in es) (words_in es) (refers_in es))

-- what the entries give
unfoldable pub linked : List Entry → Result Assembled Refusal
linked es = answered (label_refusal (labels_in es) (refers_in es)) (resolve_all (labels_in es) (words_in es) (refers_in es))
