-- A line of an assembler text (02, Change 4): an optional label with its colon, the instruction, a comment from the first ";". What is read of a line.
-- Assumes nothing.
use Rattle.std.specs.Prelude.{ℕ, suc, ◌⊎◌, ◌≡◌, Bool, true, cond, not, ◌&&◌, List, [], ◌∷◌, ◌++◌, eqb, get_or, drop}
use Prim.Native.Char.{code}
use Rattle.assemble.specs.Grammar.{front, behind, is_space, spaces, is_name_byte, is_label, forms, Instruction, Found, none, found, tried}

-- ---- the grammar

-- nothing, or a comment
abbrev pub Comment : List ℕ → Type 0
Comment c = (c ≡ []) ⊎ ((r : List ℕ) × (c ≡ code ";" ∷ r))

-- nothing, or the label l with its colon and the blank behind it
abbrev pub Prefix : List ℕ → List ℕ → Type 0
Prefix p l = ((p ≡ []) × (l ≡ [])) ⊎ ((n : ℕ) × (is_label l ≡ true) × (p ≡ l ++ (code ":" ∷ spaces (suc n))))

-- a line that takes no address
pub record EmptyLine (s : List ℕ) : Type 0 where
  pub left : ℕ
  pub comment : List ℕ
  pub commented : Comment comment
  pub text : s ≡ spaces left ++ comment

-- a line with an instruction: its label, its word, the label that it refers to
pub record WordLine (s l : List ℕ) (w : ℕ) (r : List ℕ) : Type 0 where
  pub left : ℕ
  pub start : List ℕ
  pub body : List ℕ
  pub comment : List ℕ
  pub labelled : Prefix start l
  pub instructs : Instruction body w r
  pub commented : Comment comment
  pub text : s ≡ spaces left ++ (start ++ (body ++ comment))

-- ---- reading

pub data Line : Type 0 where
  -- breaks the grammar
  bad : Line
  -- takes no address
  empty : Line
  -- label, word, and the label that it refers to: none is the empty list
  word : List ℕ → ℕ → List ℕ → Line

abbrev pub no_comment : ℕ → Bool
no_comment b = not (eqb b (code ";"))

abbrev pub lined : List ℕ → Found → Line
lined l none = bad
lined l (found w r) = word l w r

-- what is left begins with a label and a colon
abbrev pub starts_labelled : List ℕ → Bool
starts_labelled c = is_label (front is_name_byte c) && eqb (get_or (behind is_name_byte c) 0 0) (code ":")

-- behind a label's colon there is a blank
abbrev pub after_colon : List ℕ → List ℕ → Line
after_colon l r = cond (is_space (get_or r 0 0)) (lined l (tried forms (behind is_space r))) bad

unfoldable pub read_body : List ℕ → Line
read_body [] = empty
read_body (b ∷ s) = cond (starts_labelled (b ∷ s)) (after_colon (front is_name_byte (b ∷ s)) (drop 1 (behind is_name_byte (b ∷ s)))) (lined [] (tried forms (b ∷ s)))

unfoldable pub read_line : List ℕ → Line
read_line s = read_body (behind is_space (front no_comment s))
