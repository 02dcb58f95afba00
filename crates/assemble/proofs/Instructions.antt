-- The forms exclude one another, so that a text is read exactly where it is an instruction, and gives that instruction's word and label.
-- Assumes nothing.
use Prim.Native.Nat.{ℕ, zero, suc, ◌+◌, ◌*◌, ◌<◌}
use native.Mathlib.Omega.{arith}
use mathlib.Core.Logic.{◌↔◌}
use mathlib.Core.Path.{◌≡◌, refl, ap, ◌∙◌}
use mathlib.Core.Bool.{Bool, true, false, cond, not, ◌&&◌}
use mathlib.Core.List.{List, [], ◌∷◌, ◌++◌}
use borrow.Author.Tests.{lt-ltb, not-true}
use borrow.Table.Steps.{cases}
use lib.Dec.{eqb, ltb}
use lib.ListN.{length, get_or, drop}
use Rattle.isa.specs.Format.{hex_digit}
use Rattle.isa.proofs.Truths.{both, below, tested}
use Rattle.assemble.specs.Grammar.{is_space, is_label, digit_in, Token, letter, blank, digit, name, Form, forms, form_at}
use Rattle.assemble.specs.Grammar.{made, Digits, Fits, Instruction, Found, none, found, scan, or_else, tried}
use Rattle.assemble.proofs.Scans.{false-true, none_found, digit_read, label_first, skip_spaces, solid, stops_made, rest-digits, neat, scan-made, scanned}

-- ---- two patterns

-- what u makes is not read by t
abbrev Apart : List Token → List Token → Type 0
Apart t u = (ds l gs : List ℕ) (w : ℕ) (r : List ℕ) → Digits ds → is_label l ≡ true → scan t w r (made u ds l gs) ≡ none

-- a label's first byte is L, which is no digit
label_no_digit : (t : List Token) (j w : ℕ) (r l x : List ℕ) → is_label l ≡ true → scan (digit j ∷ t) w r (l ++ x) ≡ none
unfolding scan
label_no_digit t j w r [] x n = false-true n
label_no_digit t j w r (b ∷ l) x n = rw (label_first (b ∷ l) n)

-- known where, at the first place where they differ, one byte does not do for both
unfoldable apart : (t u : List Token) → (v : Bool) × (v ≡ true → Apart t u)
unfolding scan made
apart [] u = (false, false-true)
apart (letter a ∷ t) [] = (false, false-true)
apart (letter a ∷ t) (letter b ∷ u) =
    let k = apart t u in
    (cond (eqb b a) k.0 true, λ e ds l gs w r h n. cases (eqb b a) (λ q. rw q (k.1 (rw q at e) ds l gs w r h n)) (λ q. rw q))
apart (letter a ∷ t) (blank ∷ u) = (false, false-true)
apart (letter a ∷ t) (digit k ∷ u) =
    let f : ℕ → Bool = λ d. not (eqb (hex_digit d) a) in
    (below f 16, λ e ds l gs w r h n. rw (not-true (eqb (hex_digit (get_or ds 0 0)) a) (tested f 16 e (get_or ds 0 0) (h 0))))
apart (letter a ∷ t) (name ∷ u) = (false, false-true)
apart (blank ∷ t) [] = (false, false-true)
apart (blank ∷ t) (letter b ∷ u) = (false, false-true)
apart (blank ∷ t) (blank ∷ u) =
    let k = apart t u in (
      solid u && k.0,
      λ e ds l gs w r h n.
          let p = both (solid u) k.0 e in
          rw (skip_spaces (get_or gs 0 0) (made u ds l (drop 1 gs)), (stops_made is_space u ds l (drop 1 gs) h p.0).1) (k.1 p.1 ds l (drop 1 gs) w r h n),
    )
apart (blank ∷ t) (digit k ∷ u) = (false, false-true)
apart (blank ∷ t) (name ∷ u) = (false, false-true)
apart (digit j ∷ t) [] = (false, false-true)
apart (digit j ∷ t) (letter b ∷ u) = (not (ltb (digit_in b) 16), λ e ds l gs w r h n. rw (not-true (ltb (digit_in b) 16) e))
apart (digit j ∷ t) (blank ∷ u) = (false, false-true)
apart (digit j ∷ t) (digit k ∷ u) =
    let m = apart t u in (
      m.0,
      λ e ds l gs w r h n.
          let d = get_or ds 0 0 in
          rw (digit_read d (h 0), lt-ltb d 16 (h 0)) (m.1 e (drop 1 ds) l gs (w + j * d) r (rest-digits ds h) n),
    )
apart (digit j ∷ t) (name ∷ u) = (true, λ e ds l gs w r h n. label_no_digit t j w r l (made u ds l gs) n)
apart (name ∷ t) u = (false, false-true)

-- ---- a list of forms

abbrev pub each_form : (Form → Bool) → List Form → Bool
each_form p [] = true
each_form p (f ∷ fs) = p f && each_form p fs

pub each_form_lem : (p : Form → Bool) (fs : List Form) (i : ℕ) → each_form p fs ≡ true → i < length fs → p (form_at fs i) ≡ true
each_form_lem p [] i e h = absurd (omega arith)
each_form_lem p (f ∷ fs) zero e h = (both (p f) (each_form p fs) e).0
each_form_lem p (f ∷ fs) (suc i) e h = each_form_lem p fs i (both (p f) (each_form p fs) e).1 (omega arith)

-- neat, and apart from every later one
abbrev fit : Form → List Form → Bool
fit f fs = neat f.pattern && each_form (λ (g : Form). (apart f.pattern g.pattern).0) fs

abbrev sound : List Form → Bool
sound [] = true
sound (f ∷ fs) = fit f fs && sound fs

forms-sound : sound forms ≡ true
unfolding forms apart
forms-sound = refl

abbrev Tried : List Form → List ℕ → ℕ → List ℕ → Type 0
Tried fs s w r = (i : ℕ) × (i < length fs) × Fits (form_at fs i).pattern (form_at fs i).base [] s w r

tried-made : (fs : List Form) (s : List ℕ) (w : ℕ) (r : List ℕ) → sound fs ≡ true → Tried fs s w r → tried fs s ≡ found w r
unfolding tried
tried-made [] s w r e (i, h, m) = absurd (omega arith)
tried-made (f ∷ fs) s w r e (zero, h, m) =
    let k = both (fit f fs) (sound fs) e in
    let q = scan-made f.pattern m.digits m.label m.gaps f.base [] (both (neat f.pattern) _ k.0).0 m.hexadecimal m.named in
    rw (m.text, q, ← m.word, ← m.refers)
tried-made (f ∷ fs) s w r e (suc i, h, m) =
    let p : Form → Bool = λ (g : Form). (apart f.pattern g.pattern).0 in
    let k = both (fit f fs) (sound fs) e in
    let a = (apart f.pattern (form_at fs i).pattern).1 (each_form_lem p fs i (both (neat f.pattern) _ k.0).1 (omega arith)) in
    rw (ap (scan f.pattern f.base []) m.text ∙ a m.digits m.label m.gaps f.base [] m.hexadecimal m.named)
    (tried-made fs s w r k.1 (i, omega arith, m))

tried-fits : (fs : List Form) (s : List ℕ) (w : ℕ) (r : List ℕ) → sound fs ≡ true → tried fs s ≡ found w r → Tried fs s w r
unfolding tried
tried-fits [] s w r k e = none_found e
tried-fits (f ∷ fs) s w r k e = go (scan f.pattern f.base [] s) refl e (tried-fits fs s w r (both (fit f fs) (sound fs) k).1)
  where
    go : (o : Found) → scan f.pattern f.base [] s ≡ o → or_else o (tried fs s) ≡ found w r → (tried fs s ≡ found w r → Tried fs s w r) → Tried (f ∷ fs) s w r
    go none q h g = let t = g h in (suc t.0, omega (arith, t.1), t.2)
    go (found v x) q h g =
        let n = (both (neat f.pattern) _ (both (fit f fs) (sound fs) k).0).0 in
        (0, omega arith, (scanned f.pattern f.base [] s w r (76 ∷ 48 ∷ []) n refl (q ∙ h)).0)

-- a text is read exactly where it is an instruction
pub instruction_exact : (s : List ℕ) (w : ℕ) (r : List ℕ) → (tried forms s ≡ found w r) ↔ Instruction s w r
instruction_exact s w r = (
  λ e. let t = tried-fits forms s w r forms-sound e in record { which = t.0; known = t.1; fits = t.2 },
  λ i. tried-made forms s w r forms-sound (i.which, i.known, i.fits),
)
