-- Which refusal a text gets, by its lines: the first faulty line decides, and labels only where no line is faulty.
-- Assumes nothing.
use Rattle.std.specs.Prelude.{ℕ, ◌≤◌, ◌<◌, ◌≡◌, List, [], length, get_or, take}
use Rattle.listing.specs.Listing.{listing_words}
use Rattle.assemble.specs.Lines.{WordLine, Line}
use Rattle.assemble.specs.Assembly.{lines, words_of, labels_of, refers_of, FitLine, FitLines, Once, Standing}

-- the lines before line i fit the grammar, as ls says, and have at most 256 words
pub record Until (t : List ℕ) (i : ℕ) (ls : List Line) : Type 0 where
  pub inside : i < length (lines t)
  pub fit : FitLines (take i (lines t)) ls
  pub few : length (words_of ls) ≤ listing_words

-- 11: the first faulty line breaks the grammar
pub record Breaks (t : List ℕ) : Type 0 where
  pub place : ℕ
  pub ls : List Line
  pub until : Until t place ls
  pub breaks : (l : Line) → FitLine (get_or (lines t) place []) l → ⊥

-- 13: the first faulty line fits, and has the 257th word
pub record Overflows (t : List ℕ) : Type 0 where
  pub place : ℕ
  pub ls : List Line
  pub until : Until t place ls
  pub full : length (words_of ls) ≡ listing_words
  pub label : List ℕ
  pub value : ℕ
  pub refers : List ℕ
  pub takes : WordLine (get_or (lines t) place []) label value refers

-- 12: no line is faulty, and a label stands on two lines, or one that is used on none
pub record Mislabelled (t : List ℕ) : Type 0 where
  pub ls : List Line
  pub fit : FitLines (lines t) ls
  pub few : length (words_of ls) ≤ listing_words
  pub labels : Once (labels_of ls) × Standing (refers_of ls) (labels_of ls) → ⊥
