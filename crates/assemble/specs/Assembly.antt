-- A whole assembler text (02, Change 4): its lines, which of them take an address, its labels, what is refused, and the image.
-- Assumes nothing.
use Rattle.std.specs.Prelude.{ℕ, zero, suc, ◌+◌, ◌*◌, ◌≤◌, ◌<◌, ◌≡◌, Bool, true, false, cond, List, [], ◌∷◌, map, eqb, ltb, length, get_or}
use Prim.Native.Char.{code}
use Rattle.encoding.specs.Bytes.{member}
use Rattle.listing.specs.Listing.{listing_words}
use Rattle.assemble.specs.Lines.{EmptyLine, WordLine, Line, bad, empty, word, read_line}

-- a byte in front of the first line
abbrev pub in_front : ℕ → List (List ℕ) → List (List ℕ)
in_front b [] = (b ∷ []) ∷ []
in_front b (l ∷ ls) = (b ∷ l) ∷ ls

-- the lines end in a line feed, which the last may lack
unfoldable pub lines : List ℕ → List (List ℕ)
lines [] = []
lines (b ∷ s) = cond (eqb b (code "\n")) ([] ∷ lines s) (in_front b (lines s))

-- ---- the lines that take an address, in their order: labels, words, labels that are referred to

abbrev pub of_words : {A : Type 0} → (List ℕ → ℕ → List ℕ → A) → List Line → List A
of_words f [] = []
of_words f (bad ∷ ls) = of_words f ls
of_words f (empty ∷ ls) = of_words f ls
of_words f (word l w r ∷ ls) = f l w r ∷ of_words f ls

abbrev pub labels_of : List Line → List (List ℕ)
labels_of ls = of_words (λ l w r. l) ls

abbrev pub words_of : List Line → List ℕ
words_of ls = of_words (λ l w r. w) ls

abbrev pub refers_of : List Line → List (List ℕ)
refers_of ls = of_words (λ l w r. r) ls

-- ---- which texts are accepted

abbrev pub FitLine : List ℕ → Line → Type 0
FitLine s bad = ⊥
FitLine s empty = EmptyLine s
FitLine s (word l w r) = WordLine s l w r

abbrev pub FitLines : List (List ℕ) → List Line → Type 0
FitLines [] [] = Unit
FitLines [] (l ∷ ls) = ⊥
FitLines (s ∷ ss) [] = ⊥
FitLines (s ∷ ss) (l ∷ ls) = FitLine s l × FitLines ss ls

-- the label stands at an address
abbrev pub Stands : List ℕ → List (List ℕ) → Type 0
Stands l ls = (j : ℕ) × (j < length ls) × (get_or ls j [] ≡ l)

-- no label stands on two lines
abbrev pub Once : List (List ℕ) → Type 0
Once [] = Unit
Once (l ∷ ls) = ((l ≡ [] → ⊥) → Stands l ls → ⊥) × Once ls

-- every label used stands on a line
abbrev pub Standing : List (List ℕ) → List (List ℕ) → Type 0
Standing [] ls = Unit
Standing (r ∷ rs) ls = ((r ≡ [] → ⊥) → Stands r ls) × Standing rs ls

pub record Accepted (t : List ℕ) (ls : List Line) : Type 0 where
  pub fit : FitLines (lines t) ls
  pub few : length (words_of ls) ≤ listing_words
  pub once : Once (labels_of ls)
  pub standing : Standing (refers_of ls) (labels_of ls)

-- the image that the lines say: a word as it is, or, where it refers to a label, with the address at which that stands
pub record Image (ls : List Line) (ws : List ℕ) : Type 0 where
  pub long : length ws ≡ length (words_of ls)
  pub plain : (i : ℕ) → get_or (refers_of ls) i [] ≡ [] → get_or ws i 0 ≡ get_or (words_of ls) i 0
  pub linked : (i j : ℕ) → (get_or (refers_of ls) i [] ≡ [] → ⊥) → j < length ws → get_or (labels_of ls) j [] ≡ get_or (refers_of ls) i [] → get_or ws i 0 ≡ get_or (words_of ls) i 0 + j

-- ---- what is refused

-- 11 at the first line that breaks the grammar, 13 at the first word too many, whichever comes first: the words so far, the lines
unfoldable pub faulty : ℕ → List Line → ℕ
faulty n [] = 0
faulty n (bad ∷ ls) = 11
faulty n (empty ∷ ls) = faulty n ls
faulty n (word l w r ∷ ls) = cond (ltb n listing_words) (faulty (suc n) ls) 13

-- a label as a number, 0 for none
unfoldable pub key : List ℕ → ℕ
key [] = 0
key (b ∷ l) = b + 256 * key l

-- a label stands on two lines
unfoldable pub doubled : List ℕ → Bool
doubled [] = false
doubled (k ∷ ks) = cond (eqb k 0) (doubled ks) (cond (member k ks) true (doubled ks))

-- a label stands on none
unfoldable pub missing : List ℕ → List ℕ → Bool
missing [] ks = false
missing (r ∷ rs) ks = cond (eqb r 0) (missing rs ks) (cond (member r ks) (missing rs ks) true)

abbrev pub unless : ℕ → ℕ → ℕ
unless zero n = n
unless (suc m) n = suc m

-- of the labels and those that are referred to
abbrev pub label_refusal : List ℕ → List ℕ → ℕ
label_refusal ks rs = cond (doubled ks) 12 (cond (missing rs ks) 12 0)

-- 12 after all lines
unfoldable pub lines_refusal : List Line → ℕ
lines_refusal ls = unless (faulty 0 ls) (label_refusal (map key (labels_of ls)) (map key (refers_of ls)))

unfoldable pub refusal : List ℕ → ℕ
refusal t = lines_refusal (map read_line (lines t))

-- ---- the image

-- the first place of k
unfoldable pub placed : ℕ → List ℕ → ℕ
placed k [] = 0
placed k (x ∷ xs) = cond (eqb x k) 0 (suc (placed k xs))

-- a word, with the address of the label that it refers to
abbrev pub resolved : List ℕ → ℕ → ℕ → ℕ
resolved ks w r = w + cond (eqb r 0) 0 (placed r ks)

unfoldable pub resolve_all : List ℕ → List ℕ → List ℕ → List ℕ
resolve_all ks [] rs = []
resolve_all ks (w ∷ ws) [] = []
resolve_all ks (w ∷ ws) (r ∷ rs) = resolved ks w r ∷ resolve_all ks ws rs

unfoldable pub lines_image : List Line → List ℕ
lines_image ls = resolve_all (map key (labels_of ls)) (words_of ls) (map key (refers_of ls))

unfoldable pub image : List ℕ → List ℕ
image t = lines_image (map read_line (lines t))
