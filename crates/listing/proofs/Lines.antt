-- The laws of a line of the listing: labels, the text of a word, and columns.
-- Assumes nothing.
use Rattle.std.specs.Prelude.{None, Option, Some}
use Prim.Native.Nat.{ℕ, zero, suc, ◌+◌, ◌-◌, ◌≤◌, ◌<◌}
use Prim.Native.Char.{code}
use native.Mathlib.Omega.{arith}
use mathlib.Core.Bool.{Bool, true, false, cond, not}
use mathlib.Core.Path.{◌≡◌, refl, sym, ap, ◌∙◌}
use mathlib.Core.List.{List, [], ◌∷◌, ◌++◌}
use borrow.Author.Tests.{eqb-true, eqb-false, ne_eqb}
use lib.Dec.{eqb, ltb, lit≤}
use lib.ListN.{length, get_or, take, set, replicate, length-append, length-replicate, length-set, get_or-replicate}
use lib.Seq.{take_all, length-take-le, get_or-set_same, get_or-set_other}
use Rattle.isa.specs.declared.opcode.Opcode.{Opcode}
use Rattle.isa.specs.Text.{Text}
use Rattle.isa.specs.Text.{fixed_text, ascii, spaced, text, text_of}
use Rattle.isa.specs.Word.{byte_yz, decode_word}
use Rattle.isa.specs.Nibbles.{unused_of, unused, unused_nibbles}
use Rattle.isa.specs.Format.{fill}
use Rattle.isa.proofs.Texts.{text_of-text}
use Rattle.std.proofs.lemmas.List.{take-replicate}
use Rattle.isa.proofs.Fills.{length-fill}
use Rattle.encoding.specs.Bytes.{over, written}
use Rattle.encoding.proofs.Written.{over-over, writtens_eq}
use Rattle.disasm.specs.Disassembly.{disassemble_text}
use Rattle.disasm.proofs.Texts.{known-short}
use Rattle.listing.specs.declared.labels.Reference.{Reference}
use Rattle.listing.specs.declared.labels.Reference.TheVariants.{Loads, Stores, Jumps}
use Rattle.listing.specs.Listing.{listing_words, reference_of, refers, refers_to, referenced, labelled, listed_as, other_by, other_text}
use Rattle.listing.specs.Listing.{reference_text, listing_text, label_text, line_front, line_back, line, line_of}

-- ---- labels

or_none : (b : Bool) → b ≡ cond b true false
or_none true = refl
or_none false = refl

or_any : (b : Bool) → true ≡ cond b true true
or_any true = refl
or_any false = refl

or_assoc : (a b c : Bool) → cond a true (cond b true c) ≡ cond (cond a true b) true c
or_assoc true b c = refl
or_assoc false b c = refl

referenced-more : (xs : List ℕ) (w a : ℕ) → referenced (xs ++ (w ∷ [])) a ≡ cond (referenced xs a) true (refers_to w a)
unfolding referenced
referenced-more [] w a = sym (or_none (refers_to w a))
referenced-more (x ∷ xs) w a = ap (cond (refers_to x a) true) (referenced-more xs w a) ∙ or_assoc (refers_to x a) (referenced xs a) (refers_to w a)

labelled-more : (xs : List ℕ) (w a : ℕ) → labelled (xs ++ (w ∷ [])) a ≡ cond (labelled xs a) true (refers_to w a)
unfolding labelled
labelled-more xs w a = ap (cond (eqb a 0) true) (referenced-more xs w a) ∙ or_assoc (eqb a 0) (referenced xs a) (refers_to w a)

-- the table says of each address whether it has a label
abbrev pub Labels : List Bool → List ℕ → Type 0
Labels t ws = (a : ℕ) → a < listing_words → get_or t a false ≡ labelled ws a

pub labels-none : Labels (true ∷ replicate 255 false) []
unfolding labelled referenced
labels-none zero h = refl
labels-none (suc a) h = get_or-replicate 255 a false false (omega arith) ∙ sym (simp (ne_eqb (suc a) 0 (omega arith)))

pub length-noted : (b : Bool) (t : List Bool) (y : ℕ) → length (cond b (set t y true) t) ≡ length t
length-noted true t y = length-set t y true
length-noted false t y = refl

module _ (t : List Bool) (xs : List ℕ) (w : ℕ) (h : Labels t xs) (l : length t ≡ listing_words) (y : byte_yz w < listing_words) where
  named : (a : ℕ) → a < listing_words → (v : Bool) → eqb (byte_yz w) a ≡ v → get_or (set t (byte_yz w) true) a false ≡ cond (labelled xs a) true v
  named a k true e = rw (← (eqb-true (byte_yz w) a e)) (get_or-set_same t (byte_yz w) true false (omega arith) ∙ or_any (labelled xs (byte_yz w)))
  named a k false e = get_or-set_other t (byte_yz w) a true false (λ q. eqb-false (byte_yz w) a e (sym q)) ∙ h a k ∙ or_none (labelled xs a)

  noted : (a : ℕ) → a < listing_words → (b : Bool) → get_or (cond b (set t (byte_yz w) true) t) a false ≡ cond (labelled xs a) true (cond b (eqb (byte_yz w) a) false)
  noted a k true = named a k (eqb (byte_yz w) a) refl
  noted a k false = h a k ∙ or_none (labelled xs a)

  -- a word more
  pub labels-more : Labels (cond (refers (decode_word w)) (set t (byte_yz w) true) t) (xs ++ (w ∷ []))
  labels-more a k = noted a k (refers (decode_word w)) ∙ sym (labelled-more xs w a)

-- ---- the text of a word

-- a word without a digit too many is listed as what it decodes to, and each other one as data
pub listed_as_lem : (w : ℕ) (d : Option Opcode) → decode_word w ≡ d → unused_nibbles w ≡ 0 → listed_as w ≡ d
listed_as_lem w d e u = rw u e

pub listed_data : (w : ℕ) → (unused_nibbles w ≡ 0 → ⊥) → listed_as w ≡ None
listed_data w u = rw (ne_eqb (unused_nibbles w) 0 u)

pub listed_known : (w : ℕ) (o : Opcode) → listed_as w ≡ Some o → (decode_word w ≡ Some o) × (unused_of o w ≡ 0)
listed_known w o e = go (eqb (unused_nibbles w) 0) refl e
  where
    go : (v : Bool) → eqb (unused_nibbles w) 0 ≡ v → cond (not v) None (decode_word w) ≡ Some o → (decode_word w ≡ Some o) × (unused_of o w ≡ 0)
    go true q k = (k, ap (λ (d : Option Opcode). unused d w) (sym k) ∙ eqb-true (unused_nibbles w) 0 q)
    go false q k = let z : ◌≡◌ {A = ℕ} 0 1 = cc in absurd (omega arith)

-- a text has at most 26 bytes, so its column holds it
other_short : (w : ℕ) → length (other_text w) ≤ 26
unfolding other_text
other_short w = go (listed_as w) refl
  where
    go : (d : Option Opcode) → listed_as w ≡ d → length (other_by d w) ≤ 26
    go None e = rw length-fill (lit≤ tt)
    go (Some o) e = let s : length (disassemble_text w) ≤ 18 = known-short w o (listed_known w o e).0 in omega arith

reference_short : (b : Bool) (k : Option Reference) (w : ℕ) → length (reference_text b k w) ≤ 26
reference_short true (Some Loads) w = rw length-fill (lit≤ tt)
reference_short false (Some Loads) w = rw length-fill (lit≤ tt)
reference_short true (Some Stores) w = rw length-fill (lit≤ tt)
reference_short false (Some Stores) w = rw length-fill (lit≤ tt)
reference_short true (Some Jumps) w = rw length-fill (lit≤ tt)
reference_short false (Some Jumps) w = rw length-fill (lit≤ tt)
reference_short b None w = other_short w

pub listing_short : (n w : ℕ) → length (listing_text n w) ≤ 26
unfolding listing_text
listing_short n w = reference_short (ltb (byte_yz w) n) (reference_of (decode_word w)) w

-- the text, once it is known how the word refers to an address, and whether to one inside
pub listed : (n w : ℕ) (b : Bool) (k : Option Reference) {r : Text} → ltb (byte_yz w) n ≡ b → reference_of (decode_word w) ≡ k
    → r ≡ text (take 32 (reference_text b k w)) → r ≡ text (listing_text n w)
unfolding listing_text
listed n w b k e f g =
    let s : length (reference_text b k w) ≤ 26 = reference_short b k w in
    g ∙ ap text (take_all 32 (reference_text b k w) (omega arith)) ∙ (λ i. text (reference_text (sym e i) (sym f i) w))

pub othered : (w : ℕ) (d : Option Opcode) {r : Text} → listed_as w ≡ d → r ≡ text (other_by d w) → r ≡ text (other_text w)
unfolding other_text
othered w d e f = f ∙ ap (λ (c : Option Opcode). text (other_by c w)) (sym e)

-- of a word that refers to no address
pub other_listed : (n w : ℕ) → reference_of (decode_word w) ≡ None → other_text w ≡ listing_text n w
unfolding listing_text
other_listed n w e = λ i. reference_text (ltb (byte_yz w) n) (sym e i) w

-- a label has at most 4 bytes
pub label-short : (on : Bool) (a : ℕ) → length (label_text on a) ≤ 4
unfolding label_text
label-short true a = rw length-fill (lit≤ tt)
label-short false a = lit≤ tt

-- ---- columns

-- a text and the spaces behind it, from what the two calls say
pub column : (d : List ℕ) (at width : ℕ) (t : Text) {o₁ o₂ : List ℕ} → t.len ≤ width → width ≤ 26 → at + width ≤ length d → t.len ≤ length t.bytes
    → o₁ ≡ written d at (take t.len t.bytes) → o₂ ≡ written o₁ (at + t.len) (take (width - t.len) (replicate 26 (code " ")))
    → o₂ ≡ over d at (spaced width (text_of t))
unfolding text_of
column d at width t h k room b e f =
    let l : length (take t.len t.bytes) ≡ t.len = length-take-le t.len t.bytes b in
    let s : List ℕ = replicate (width - t.len) (code " ") in
    let m : length s ≡ width - t.len = length-replicate (width - t.len) (code " ") in
    f ∙ rw (e, take-replicate (width - t.len) 26 (code " ") (omega arith), l)
    (writtens_eq d at ((t.len, take t.len t.bytes) ∷ (width - t.len, s) ∷ []) (l, (m, tt)) (omega arith))

pub length-spaced : (n : ℕ) (xs : List ℕ) → length xs ≤ n → length (spaced n xs) ≡ n
length-spaced n xs h = simp (length-append, length-replicate) (omega arith)

-- the length of a struct that holds xs
pub text-length : (xs : List ℕ) {t : Text} → t ≡ text xs → t.len ≡ length xs
unfolding fixed_text
text-length xs e = ap (λ (u : Text). u.len) e

-- two columns one behind the other, from what the calls say of two texts
pub columns : (d : List ℕ) (at m n p : ℕ) (xs ys : List ℕ) {t u : Text} {o₁ o₂ : List ℕ} → length xs ≤ m → at + m ≡ p → at + m ≤ length d
    → t ≡ text xs → u ≡ text ys → o₁ ≡ over d at (spaced m (text_of t)) → o₂ ≡ over o₁ p (spaced n (text_of u))
    → o₂ ≡ over d at (spaced m xs ++ spaced n ys)
columns d at m n p xs ys h q room e f g k =
    let l : length (spaced m xs) ≡ m = length-spaced m xs h in
    k ∙ rw (g, e, f, text_of-text, text_of-text) (over-over d at (spaced m xs) (spaced n ys) p (omega arith) (omega arith))

-- ---- a line

pub length_front : (n : ℕ) (on : Bool) (a w : ℕ) → length (line_front n on a w) ≡ 34
unfolding line_front
length_front n on a w =
    let s : length (label_text on a) ≤ 4 = label-short on a in
    let l : length (spaced 8 (label_text on a)) ≡ 8 = length-spaced 8 (label_text on a) (omega arith) in
    let t : length (spaced 26 (listing_text n w)) ≡ 26 = length-spaced 26 (listing_text n w) (listing_short n w) in
    length-append (spaced 8 (label_text on a)) (spaced 26 (listing_text n w)) ∙ omega arith

pub length_back : (a w : ℕ) → length (line_back a w) ≡ 11
unfolding line_back
length_back a w = length-append (fill a (ascii "; yz  ")) (fill w (ascii "Wxyz\n")) ∙ rw (length-fill, length-fill)

-- every line has 45 bytes
pub length-line : (n : ℕ) (on : Bool) (a w : ℕ) → length (line n on a w) ≡ 45
unfolding line
length-line n on a w =
    let f : length (line_front n on a w) ≡ 34 = length_front n on a w in
    let b : length (line_back a w) ≡ 11 = length_back a w in
    length-append (line_front n on a w) (line_back a w) ∙ omega arith

pub length-line_of : (ws : List ℕ) (a : ℕ) → length (line_of ws a) ≡ 45
unfolding line_of
length-line_of ws a = length-line (length ws) (labelled ws a) a (get_or ws a 0)

-- the line at an address, from what the table says of it
pub line_of_lem : (ws : List ℕ) (a : ℕ) {on : Bool} → on ≡ labelled ws a → line_of ws a ≡ line (length ws) on a (get_or ws a 0)
unfolding line_of
line_of_lem ws a e = ap (λ (b : Bool). line (length ws) b a (get_or ws a 0)) (sym e)
