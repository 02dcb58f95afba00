-- Assembling the listing of an image gives that image (02, Change 4).
-- Assumes nothing.
use Prim.Native.Nat.{ℕ, zero, suc, ◌+◌, ◌*◌, ◌%◌, ◌≤◌, ◌<◌}
use Prim.Native.Char.{code}
use native.Mathlib.Omega.{arith}
use native.Mathlib.Nat.{add-zero, zero-add, add-suc, suc-add, mod-eq_of_lt, div-add-mod'}
use mathlib.Core.Logic.{inl, inr}
use mathlib.Core.Path.{◌≡◌, refl, sym, ap, ◌∙◌}
use mathlib.Core.Bool.{Bool, true, false, cond, ◌&&◌}
use mathlib.Core.List.{List, [], ◌∷◌, ◌++◌, append_assoc, append-nil}
use borrow.Author.Tests.{eq-eqb, ltb-true}
use lib.Dec.{eqb, ltb}
use lib.ListN.{length, get_or, drop}
use lib.Seq.{ext_get_or}
use Rattle.isa.specs.Text.{ascii, spaced}
use Rattle.isa.specs.Word.{decode_word, digit_y, digit_z, byte_yz}
use Rattle.isa.specs.Format.{hex_digit, fill, decimal}
use Rattle.isa.proofs.Truths.{both, tested}
use Rattle.encoding.specs.Bytes.{each_from}
use Rattle.listing.specs.Listing.{listing_words, refers, refers_to, referenced, labelled, listing_text, label_text, line_front, line_back, line, line_of}
use Rattle.listing.specs.Listing.{words_text, head_start, head_end, head_of, listing_of}
use Rattle.assemble.specs.Grammar.{all, front, behind, spaces, digit_in, Form, forms, form_at, Instruction}
use Rattle.assemble.specs.Lines.{Prefix, WordLine, Line, empty, word}
use Rattle.assemble.specs.Assembly.{lines, of_words, labels_of, words_of, refers_of, FitLines, Stands, Once, Standing, Accepted, refusal, image, Image}
use Rattle.assemble.specs.Reading.{in_line}
use Rattle.assemble.proofs.Scans.{past, digit_read, digit-name}
use Rattle.assemble.proofs.Instructions.{each_form_lem}
use Rattle.assemble.proofs.Exact.{all_append, without, no_name, no_made}
use Rattle.assemble.proofs.Rows.{lines_first}
use Rattle.assemble.proofs.Texts.{clash, accepted_served, accepted_image}
use Rattle.assemble.proofs.Listed.{label_of, label_is, low_byte, word_part, label_if, column_fits}

-- ---- a line ends before its line feed

first_line : (s r : List ℕ) → behind in_line s ≡ 10 ∷ r → lines s ≡ front in_line s ∷ lines r
first_line [] r e = clash cc
first_line (b ∷ s) r e = lines_first (b ∷ s) (omega arith) ∙ ap (λ (x : List ℕ). front in_line (b ∷ s) ∷ lines (drop 1 x)) e

cut_line : (x y : List ℕ) → all in_line x ≡ true → lines (x ++ (10 ∷ y)) ≡ x ∷ lines y
cut_line x y e = let p = past in_line x (10 ∷ y) e in rw (first_line (x ++ (10 ∷ y)) y p.1, p.0, append-nil x)

-- ---- the head

-- a comment takes no address
comment-line : (s r : List ℕ) (ls : List Line) → front in_line s ≡ 59 ∷ drop 1 (front in_line s) → behind in_line s ≡ 10 ∷ r → FitLines (lines r) ls
    → FitLines (lines s) (empty ∷ ls)
comment-line s r ls p q f = rw (first_line s r q) (record { left = 0; comment = front in_line s; commented = inr (drop 1 (front in_line s), p); text = refl }, f)

decimal_unfed : (n : ℕ) → n ≤ 256 → all in_line (decimal 3 n) ≡ true
unfolding decimal
decimal_unfed n h = tested (λ (k : ℕ). all in_line (decimal 3 k)) 257 refl n (omega arith)

words-line : (n : ℕ) (y : List ℕ) → behind in_line (words_text n ++ y) ≡ 10 ∷ y
unfolding words_text
words-line n y = go (eqb n 1)
  where
    go : (v : Bool) → behind in_line (cond v (ascii " word of machine code.\n") (ascii " words of machine code.\n") ++ y) ≡ 10 ∷ y
    go true = refl
    go false = refl

head_fits : (n : ℕ) (y : List ℕ) (ls : List Line) → n ≤ 256 → FitLines (lines y) ls → FitLines (lines (head_of n ++ y)) (empty ∷ empty ∷ empty ∷ empty ∷ ls)
unfolding head_of head_start head_end lines
head_fits n y ls h f =
    let x = head_end ++ y in
    let z = drop 1 (behind in_line x) in
    let e : behind in_line (head_of n ++ y) ≡ 10 ∷ x = simp append_assoc ((past in_line (decimal 3 n) (words_text n ++ x) (decimal_unfed n h)).1 ∙ words-line n x) in
    let b : FitLines (lines (10 ∷ y)) (empty ∷ ls) = (record { left = 0; comment = []; commented = inl refl; text = refl }, f) in
    comment-line (head_of n ++ y) x (empty ∷ empty ∷ empty ∷ ls) refl e
    (comment-line x z (empty ∷ empty ∷ ls) refl refl (comment-line z (10 ∷ y) (empty ∷ ls) refl refl b))

-- ---- a line of a listing

-- no byte of it is a line feed
digit_unfed : (n : ℕ) → in_line (hex_digit (n % 16)) ≡ true
digit_unfed n = no_name (code "\n") refl refl (hex_digit (n % 16)) (digit-name (n % 16) (omega arith))

instruction_unfed : (s : List ℕ) (w : ℕ) (r : List ℕ) → Instruction s w r → all in_line s ≡ true
unfolding forms
instruction_unfed s w r i =
    let f = i.fits in
    let u = each_form_lem (λ (f : Form). without (code "\n") refl refl f.pattern) forms i.which refl i.known in
    rw f.text (no_made (code "\n") refl refl (form_at forms i.which).pattern f.digits f.label f.gaps u f.hexadecimal f.named)

abbrev note : ℕ → ℕ → List ℕ
note a w = fill a (ascii "; yz  ") ++ fill w (ascii "Wxyz")

-- without its line feed
abbrev body_of : ℕ → Bool → ℕ → ℕ → List ℕ
body_of n on a w = spaced 8 (label_text on a) ++ (spaced 26 (listing_text n w) ++ note a w)

-- a reference inside an image of n words is written as a label
abbrev by_label : ℕ → ℕ → Bool
by_label n w = refers (decode_word w) && ltb (byte_yz w) n

-- the label's field: nothing, or a label with its colon
field_fits : (on : Bool) (a : ℕ) → (left : ℕ) × (start : List ℕ) × Prefix start (label_if on a) × (spaced 8 (label_text on a) ≡ spaces left ++ start)
unfolding label_text fill
field_fits true a = (0, spaced 8 (label_text true a), inr (3, label_is a, refl), refl)
field_fits false a = (8, [], inl (refl, refl), refl)

line-fits : (n : ℕ) (on : Bool) (a w : ℕ) → w < 65536 → WordLine (body_of n on a w) (label_if on a) (word_part (by_label n w) w) (label_if (by_label n w) w)
unfolding fill
line-fits n on a w h =
    let p = field_fits on a in
    let rest = spaced 26 (listing_text n w) ++ note a w in
    record {
      left = p.0;
      start = p.1;
      body = spaced 26 (listing_text n w);
      comment = note a w;
      labelled = p.2;
      instructs = column_fits w h n;
      commented = inr (drop 1 (note a w), refl);
      text = ap (λ (x : List ℕ). x ++ rest) p.3 ∙ append_assoc (spaces p.0) p.1 rest;
    }

label_unfed : (on : Bool) (a : ℕ) → all in_line (spaced 8 (label_text on a)) ≡ true
unfolding label_text fill
label_unfed true a = simp digit_unfed
label_unfed false a = refl

line_cut : (n : ℕ) (on : Bool) (a w : ℕ) (y : List ℕ) → w < 65536 → lines (line n on a w ++ y) ≡ body_of n on a w ∷ lines y
unfolding line line_front line_back fill
line_cut n on a w y h =
    let x = spaced 26 (listing_text n w) in
    let u = all_append in_line x (note a w) (instruction_unfed x _ _ (column_fits w h n)) (simp digit_unfed) in
    ap lines (simp append_assoc) ∙ cut_line (body_of n on a w) y (all_append in_line (spaced 8 (label_text on a)) (x ++ note a w) (label_unfed on a) u)

-- ---- labels tell addresses apart

abbrev told_by : List ℕ → ℕ
told_by l = 16 * digit_in (get_or l 1 0) + digit_in (get_or l 2 0)

label-told : (w : ℕ) → told_by (label_of w) ≡ byte_yz w
unfolding fill
label-told w = rw (digit_read (digit_y w) (omega arith), digit_read (digit_z w) (omega arith)) (sym (low_byte w))

label_same : (a b : ℕ) → a < 256 → b < 256 → label_of a ≡ label_of b → a ≡ b
label_same a b h k e = sym (mod-eq_of_lt h) ∙ sym (label-told a) ∙ ap told_by e ∙ label-told b ∙ mod-eq_of_lt k

-- the label of a word's last two digits is that of the address
label_low : (w : ℕ) → label_of (byte_yz w) ≡ label_of w
unfolding fill
label_low w =
    let b : w % 256 < 256 = omega arith in
    let y : digit_y (w % 256) ≡ digit_y w = omega (arith, low_byte w, low_byte (w % 256), mod-eq_of_lt b) in
    let z : digit_z (w % 256) ≡ digit_z w = omega (arith, low_byte w, low_byte (w % 256), mod-eq_of_lt b) in
    λ i. 76 ∷ hex_digit (y i) ∷ hex_digit (z i) ∷ []

label_there : (a : ℕ) {A : Type 0} → label_of a ≡ [] → A
unfolding fill
label_there a e = clash cc

-- a label that is there is its address's
one_place : (a b : ℕ) (u v : Bool) → a < 256 → b < 256 → (label_if u a ≡ [] → ⊥) → label_if v b ≡ label_if u a → b ≡ a
one_place a b true true h k s e = label_same b a k h e
one_place a b true false h k s e = label_there a (sym e)
one_place a b false v h k s e = absurd (s refl)

-- ---- references

or_true : (v : Bool) {x : Bool} → x ≡ true → cond v true x ≡ true
or_true true e = refl
or_true false e = e

referenced_at : (ws : List ℕ) (a : ℕ) → a < length ws → refers (decode_word (get_or ws a 0)) ≡ true → referenced ws (byte_yz (get_or ws a 0)) ≡ true
unfolding referenced
referenced_at [] a h e = absurd (omega arith)
referenced_at (w ∷ ws) zero h e = rw (e, eq-eqb (byte_yz w) (byte_yz w) refl)
referenced_at (w ∷ ws) (suc a) h e = or_true (refers_to w (byte_yz (get_or ws a 0))) (referenced_at ws a (omega arith) e)

-- ---- labels by their places

once_by : (ls : List (List ℕ)) → ((i j : ℕ) → i < j → j < length ls → (get_or ls i [] ≡ [] → ⊥) → get_or ls j [] ≡ get_or ls i [] → ⊥) → Once ls
once_by [] f = tt
once_by (l ∷ ls) f = (λ n t. f 0 (suc t.0) (omega arith) (omega (arith, t.1)) n t.2, once_by ls (λ i j h k. f (suc i) (suc j) (omega arith) (omega arith)))

standing_by : (rs ls : List (List ℕ)) → ((i : ℕ) → i < length rs → (get_or rs i [] ≡ [] → ⊥) → Stands (get_or rs i []) ls) → Standing rs ls
standing_by [] ls f = tt
standing_by (r ∷ rs) ls f = (f 0 (omega arith), standing_by rs ls (λ i h. f (suc i) (omega arith)))

-- ---- the lines of a listing

module _ (ws : List ℕ) where
  abbrev at : ℕ → ℕ
  at a = get_or ws a 0

  abbrev refer : ℕ → Bool
  refer a = by_label (length ws) (at a)

  -- what is wanted of the line at an address: of its label, its word, and the label that it refers to
  abbrev part : {A : Type 0} → (List ℕ → ℕ → List ℕ → A) → ℕ → A
  part f a = f (label_if (labelled ws a) a) (word_part (refer a) (at a)) (label_if (refer a) (at a))

  abbrev lines_from : ℕ → ℕ → List Line
  lines_from i zero = []
  lines_from i (suc k) = part word i ∷ lines_from (suc i) k

  -- with its head
  abbrev listed : List Line
  listed = empty ∷ empty ∷ empty ∷ empty ∷ lines_from 0 (length ws)

  module _ {A : Type 0} (f : List ℕ → ℕ → List ℕ → A) where
    of_long : (i k : ℕ) → length (of_words f (lines_from i k)) ≡ k
    of_long i zero = refl
    of_long i (suc k) = ap suc (of_long (suc i) k)

    of_from : (d : A) (i k j : ℕ) → j < k → get_or (of_words f (lines_from i k)) j d ≡ part f (i + j)
    of_from d i zero j h = absurd (omega arith)
    of_from d i (suc k) zero h = rw add-zero
    of_from d i (suc k) (suc j) h = rw (add-suc, ← suc-add) (of_from d (suc i) k j (omega arith))

    of_at : (d : A) (j : ℕ) → j < length ws → get_or (of_words f listed) j d ≡ part f j
    of_at d j h = of_from d 0 (length ws) j h ∙ rw zero-add

  -- the label that a word refers to stands at its address
  refer_place : (a : ℕ) → a < length ws → refer a ≡ true → (byte_yz (at a) < length ws) × (get_or (labels_of listed) (byte_yz (at a)) [] ≡ label_of (at a))
  unfolding labelled
  refer_place a h e =
      let y = byte_yz (at a) in
      let p = both (refers (decode_word (at a))) (ltb y (length ws)) e in
      let l : labelled ws y ≡ true = or_true (eqb y 0) (referenced_at ws a h p.0) in
      let i : y < length ws = ltb-true y (length ws) p.1 in
      (i, of_at (λ l w r. l) [] y i ∙ ap (λ (v : Bool). label_if v y) l ∙ label_low (at a))

  standing_at : (a : ℕ) → a < length ws → (v : Bool) → refer a ≡ v → (label_if v (at a) ≡ [] → ⊥) → Stands (label_if v (at a)) (labels_of listed)
  standing_at a h true e s = let p = refer_place a h e in (byte_yz (at a), rw (of_long (λ l w r. l) 0 (length ws)) p.0, p.1)
  standing_at a h false e s = absurd (s refl)

  -- the image has each word again: without the address that it refers to, and that address
  restored : (ws' : List ℕ) → Image listed ws' → length ws' ≡ length ws → (i : ℕ) → i < length ws → get_or ws' i 0 ≡ at i
  restored ws' m n i h = go (refer i) refl (of_at (λ l w r. w) 0 i h) (of_at (λ l w r. r) [] i h)
    where
      go : (v : Bool) → refer i ≡ v → get_or (words_of listed) i 0 ≡ word_part v (at i) → get_or (refers_of listed) i [] ≡ label_if v (at i) → get_or ws' i 0 ≡ at i
      go false e w r = m.plain i r ∙ w
      go true e w r =
          let y = byte_yz (at i) in
          let p = refer_place i h e in
          m.linked i y (λ q. label_there (at i) (sym r ∙ q)) (omega (arith, p.0)) (p.1 ∙ sym r) ∙ ap (λ (x : ℕ). x + y) w ∙ omega (arith, div-add-mod' (at i) 256)

  module _ (few : length ws ≤ listing_words) (fit : (a : ℕ) → at a < 65536) where
    fits_from : (i k : ℕ) → FitLines (lines (each_from (line_of ws) i k)) (lines_from i k)
    unfolding each_from lines line_of
    fits_from i zero = tt
    fits_from i (suc k) =
        rw (line_cut (length ws) (labelled ws i) i (at i) (each_from (line_of ws) (suc i) k) (fit i))
        (line-fits (length ws) (labelled ws i) i (at i) (fit i), fits_from (suc i) k)

    -- the listing is accepted
    listing_accepted : Accepted (listing_of ws) listed
    unfolding listing_of
    listing_accepted = record {
      fit = head_fits (length ws) (each_from (line_of ws) 0 (length ws)) (lines_from 0 (length ws)) few (fits_from 0 (length ws));
      few = rw (of_long (λ l w r. w) 0 (length ws)) few;
      once = once_by (labels_of listed) (λ i j l h.
          let g = rw (of_long (λ l w r. l) 0 (length ws)) at h in
          rw (of_at (λ l w r. l) [] i (omega arith), of_at (λ l w r. l) [] j g)
          (λ n e. let q = one_place i j (labelled ws i) (labelled ws j) (omega arith) (omega arith) n e in omega arith));
      standing = standing_by (refers_of listed) (labels_of listed) (λ i h.
          let g = rw (of_long (λ l w r. r) 0 (length ws)) at h in
          rw (of_at (λ l w r. r) [] i g) (standing_at i g (refer i) refl));
    }

-- assembling the listing of an image of at most 256 words gives that image
pub round_trip : (ws : List ℕ) → length ws ≤ listing_words → ((a : ℕ) → get_or ws a 0 < 65536) → (refusal (listing_of ws) ≡ 0) × (image (listing_of ws) ≡ ws)
round_trip ws few fit =
    let a = listing_accepted ws few fit in
    let m = accepted_image (listing_of ws) (listed ws) a in
    let n : length (image (listing_of ws)) ≡ length ws = m.long ∙ of_long ws (λ l w r. w) 0 (length ws) in (
      (accepted_served (listing_of ws) (listed ws) a).0,
      ext_get_or 0 (image (listing_of ws)) ws n (λ i h. restored ws (image (listing_of ws)) m n i (omega (arith, h, n))),
    )
