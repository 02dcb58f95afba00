-- A line is read as one with an instruction, or as an empty one, exactly where the grammar says so.
-- Assumes nothing.
use Prim.Native.Nat.{ℕ, zero, suc}
use Prim.Native.Char.{code}
use native.Mathlib.Omega.{arith}
use mathlib.Core.Logic.{◌↔◌, inl, inr}
use mathlib.Core.Path.{◌≡◌, refl, sym, ap, ◌∙◌}
use mathlib.Core.Bool.{Bool, true, false, not, ◌&&◌, and-false}
use mathlib.Core.List.{List, [], ◌∷◌, ◌++◌, append_assoc, append-nil}
use borrow.Author.Tests.{eqb-true, not-true}
use borrow.Table.Steps.{cases}
use lib.Dec.{eqb}
use lib.ListN.{length, get_or, drop}
use Rattle.isa.specs.Format.{hex_digit}
use Rattle.isa.proofs.Truths.{both}
use Rattle.assemble.specs.Grammar.{all, front, behind, is_space, spaces, is_name_byte, is_label, Token, letter, blank, digit, name, Form, forms, form_at}
use Rattle.assemble.specs.Grammar.{made, Digits, Instruction, Found, none, found, scan, tried}
use Rattle.assemble.specs.Lines.{Comment, Prefix, EmptyLine, WordLine, Line, bad, empty, word, no_comment, lined, starts_labelled, after_colon, read_body, read_line}
use Rattle.assemble.proofs.Scans.{false-true, front-behind, past, digit-name, label-bytes, skip_spaces, solid, stops_made, rest-digits, spaced-front, none_found}
use Rattle.assemble.proofs.Instructions.{each_form, each_form_lem, instruction_exact}

-- ---- a byte that no instruction has

pub all_append : (f : ℕ → Bool) (x y : List ℕ) → all f x ≡ true → all f y ≡ true → all f (x ++ y) ≡ true
all_append f [] y e g = g
all_append f (b ∷ x) y e g = let p = both (f b) (all f x) e in rw p.0 (all_append f x y p.1 g)

-- c is no space and no byte of a name
module _ (c : ℕ) (unspaced : eqb 32 c ≡ false) (unnamed : is_name_byte c ≡ false) where
  abbrev pub no : ℕ → Bool
  no b = not (eqb b c)

  pub no_spaces : (n : ℕ) → all no (spaces n) ≡ true
  no_spaces zero = refl
  no_spaces (suc n) = rw unspaced (no_spaces n)

  pub no_name : (b : ℕ) → is_name_byte b ≡ true → no b ≡ true
  no_name b e = cases (eqb b c) (λ q. let k : is_name_byte b ≡ false = rw (eqb-true b c q) unnamed in false-true (sym k ∙ e)) (λ q. rw q)

  pub no_names : (l : List ℕ) → all is_name_byte l ≡ true → all no l ≡ true
  no_names [] e = refl
  no_names (b ∷ l) e = let p = both (is_name_byte b) (all is_name_byte l) e in rw (no_name b p.0) (no_names l p.1)

  -- nor a byte of the pattern
  abbrev pub without : List Token → Bool
  without [] = true
  without (letter b ∷ t) = no b && without t
  without (blank ∷ t) = without t
  without (digit k ∷ t) = without t
  without (name ∷ t) = without t

  pub no_made : (t : List Token) (ds l gs : List ℕ) → without t ≡ true → Digits ds → is_label l ≡ true → all no (made t ds l gs) ≡ true
  unfolding made
  no_made [] ds l gs e h n = no_spaces (get_or gs 0 0)
  no_made (letter b ∷ t) ds l gs e h n = let p = both (no b) (without t) e in rw p.0 (no_made t ds l gs p.1 h n)
  no_made (blank ∷ t) ds l gs e h n =
      all_append no (spaces (suc (get_or gs 0 0))) (made t ds l (drop 1 gs)) (no_spaces (suc (get_or gs 0 0))) (no_made t ds l (drop 1 gs) e h n)
  no_made (digit k ∷ t) ds l gs e h n = rw (no_name (hex_digit (get_or ds 0 0)) (digit-name (get_or ds 0 0) (h 0))) (no_made t (drop 1 ds) l gs e (rest-digits ds h) n)
  no_made (name ∷ t) ds l gs e h n = all_append no l (made t ds l gs) (no_names l (label-bytes l n)) (no_made t ds l gs e h n)

  -- where c is no byte of a text, it is not the one behind those that pass
  no_behind : (f : ℕ → Bool) (x : List ℕ) → eqb 0 c ≡ false → all no x ≡ true → eqb (get_or (behind f x) 0 0) c ≡ false
  no_behind f [] z e = z
  no_behind f (b ∷ x) z e =
      let p = both (no b) (all no x) e in
      cases (f b) (λ q. rw q (no_behind f x z p.1)) (λ q. rw q (not-true (eqb b c) p.0))

spaces_clean : (n : ℕ) → all no_comment (spaces n) ≡ true
spaces_clean n = no_spaces (code ";") refl refl n

label_clean : (l : List ℕ) → is_label l ≡ true → all no_comment l ≡ true
label_clean l n = no_names (code ";") refl refl l (label-bytes l n)

-- ---- what is needed of an instruction's text

record Body (i : List ℕ) : Type 0 where
  uncommented : all no_comment i ≡ true
  unspaced : behind is_space i ≡ i
  unlabelled : starts_labelled i ≡ false

-- it has no semicolon and no colon, and begins with no space
abbrev body_test : Form → Bool
body_test f = without (code ";") refl refl f.pattern && (without (code ":") refl refl f.pattern && solid f.pattern)

forms_tested : each_form body_test forms ≡ true
unfolding forms
forms_tested = refl

body_of : (i : List ℕ) (w : ℕ) (r : List ℕ) → Instruction i w r → Body i
body_of i w r q =
    let p = (form_at forms q.which).pattern in
    let t = q.fits in
    let x = made p t.digits t.label t.gaps in
    let c = both (without (code ";") refl refl p) (without (code ":") refl refl p && solid p) (each_form_lem body_test forms q.which forms_tested q.known) in
    let d = both (without (code ":") refl refl p) (solid p) c.1 in
    let n = no_made (code ":") refl refl p t.digits t.label t.gaps d.0 t.hexadecimal t.named in
    record {
      uncommented = rw t.text (no_made (code ";") refl refl p t.digits t.label t.gaps c.0 t.hexadecimal t.named);
      unspaced = rw t.text (stops_made is_space p t.digits t.label t.gaps t.hexadecimal d.1).1;
      unlabelled = rw (t.text, no_behind (code ":") refl refl is_name_byte x refl n) (and-false (is_label (front is_name_byte x)));
    }

-- ---- a line that fits is read

comment_stops : (c : List ℕ) → Comment c → front no_comment c ≡ []
comment_stops c (inl q) = rw q
comment_stops c (inr q) = rw q.1

nothing : none ≡ tried forms []
unfolding tried forms scan
nothing = refl

body_read : (c : List ℕ) (w : ℕ) (r : List ℕ) → tried forms c ≡ found w r → starts_labelled c ≡ false → read_body c ≡ word [] w r
unfolding read_body
body_read [] w r e u = none_found (nothing ∙ e)
body_read (b ∷ s) w r e u = rw (u, e)

label_read : (l i : List ℕ) (n w : ℕ) (r : List ℕ) → is_label l ≡ true → behind is_space i ≡ i → tried forms i ≡ found w r
    → read_body (l ++ (58 ∷ (spaces (suc n) ++ i))) ≡ word l w r
unfolding read_body
label_read [] i n w r e u t = false-true e
label_read (b ∷ l) i n w r e u t =
    let p = past is_name_byte (b ∷ l) (58 ∷ (spaces (suc n) ++ i)) (label-bytes (b ∷ l) e) in
    rw (p.0 ∙ append-nil (b ∷ l), p.1, e) (rw (skip_spaces n i, u, t))

label_solid : (l x : List ℕ) → is_label l ≡ true → behind is_space (l ++ x) ≡ l ++ x
label_solid [] x e = false-true e
label_solid (b ∷ l) x e = rw (eqb-true b 76 (both (eqb b 76) _ e).0)

-- the comment is cut off and the spaces at the left are skipped
opened : {s : List ℕ} (n : ℕ) (x c : List ℕ) → s ≡ spaces n ++ (x ++ c) → all no_comment x ≡ true → Comment c → read_line s ≡ read_body (behind is_space x)
unfolding read_line
opened n x c t e k =
    let u = (past no_comment (spaces n ++ x) c (all_append no_comment (spaces n) x (spaces_clean n) e)).0 in
    rw (t, ← append_assoc (spaces n) x c, u, comment_stops c k, append-nil (spaces n ++ x), skip_spaces n x)

line_read : (s l : List ℕ) (w : ℕ) (r : List ℕ) → WordLine s l w r → read_line s ≡ word l w r
line_read s l w r k = go k.labelled
  where
    b : Body k.body
    b = body_of k.body w r k.instructs

    t : tried forms k.body ≡ found w r
    t = (instruction_exact k.body w r).1 k.instructs

    go : Prefix k.start l → read_line s ≡ word l w r
    go (inl q) =
        opened k.left k.body k.comment (rw q.0 at k.text) b.uncommented k.commented
        ∙ rw (b.unspaced, q.1) (body_read k.body w r t b.unlabelled)
    go (inr q) =
        let p : List ℕ = 58 ∷ spaces (suc q.0) in
        let x = p ++ k.body in
        let c = all_append no_comment l x (label_clean l q.1) (all_append no_comment p k.body (spaces_clean (suc q.0)) b.uncommented) in
        opened k.left (l ++ x) k.comment (k.text ∙ rw q.2 (simp append_assoc)) c k.commented
        ∙ rw (label_solid l x q.1) (label_read l k.body q.0 w r q.1 b.unspaced t)

empty_read : (s : List ℕ) → EmptyLine s → read_line s ≡ empty
unfolding read_body
empty_read s k = opened k.left [] k.comment k.text refl k.commented

-- ---- a line that is read fits

-- what is said of a text that is read as a line
abbrev Told : List ℕ → Line → Type 0
Told s bad = Unit
Told s empty = EmptyLine s
Told s (word l w r) = WordLine s l w r

rest-comment : (s : List ℕ) → Comment (behind no_comment s)
rest-comment [] = inl refl
rest-comment (b ∷ s) = cases (eqb b 59) (λ q. rw q (inr (s, λ i. eqb-true b 59 q i ∷ s))) (λ q. rw q (rest-comment s))

-- spaces, what is read, the comment
in_parts : (s : List ℕ) → s ≡ spaces (length (front is_space (front no_comment s))) ++ (behind is_space (front no_comment s) ++ behind no_comment s)
in_parts s =
    sym (front-behind no_comment s)
    ∙ ap (λ (x : List ℕ). x ++ behind no_comment s) (spaced-front (front no_comment s))
    ∙ append_assoc (spaces (length (front is_space (front no_comment s)))) (behind is_space (front no_comment s)) (behind no_comment s)

head_cons : (x : List ℕ) (c : ℕ) → get_or x 0 0 ≡ suc c → x ≡ suc c ∷ drop 1 x
head_cons [] c e = absurd (omega arith)
head_cons (b ∷ x) c e = λ i. e i ∷ x

-- a blank and what is behind it
blank-front : (x : List ℕ) → is_space (get_or x 0 0) ≡ true → x ≡ spaces (suc (length (front is_space (drop 1 x)))) ++ behind is_space x
blank-front [] e = false-true e
blank-front (b ∷ x) e = rw e (λ i. eqb-true b 32 e i ∷ spaced-front x i)

-- spaces at the left, a text of which the body is read, a comment
module _ (s : List ℕ) (n : ℕ) (k : List ℕ) (m : Comment k) where
  instructed : (start i l : List ℕ) → Prefix start l → s ≡ spaces n ++ (start ++ (i ++ k)) → (o : Found) → tried forms i ≡ o → Told s (lined l o)
  instructed start i l p t none e = tt
  instructed start i l p t (found w r) e =
      record { left = n; start = start; body = i; comment = k; labelled = p; instructs = (instruction_exact i w r).0 e; commented = m; text = t }

  -- a label l, its colon, and what is left
  colon_told : (l x : List ℕ) → is_label l ≡ true → eqb (get_or x 0 0) 58 ≡ true → s ≡ spaces n ++ ((l ++ x) ++ k) → Told s (after_colon l (drop 1 x))
  colon_told l x a b t =
      let y = drop 1 x in
      let i = behind is_space y in
      let j = length (front is_space (drop 1 y)) in
      let p : List ℕ = 58 ∷ spaces (suc j) in
      cases (is_space (get_or y 0 0)) (λ e.
      let u : x ≡ p ++ i = head_cons x 57 (eqb-true (get_or x 0 0) 58 b) ∙ ap (λ (z : List ℕ). 58 ∷ z) (blank-front y e) in
      rw e (instructed (l ++ p) i l (inr (j, a, refl)) (t ∙ ap (λ (z : List ℕ). spaces n ++ ((l ++ z) ++ k)) u ∙ simp append_assoc) (tried forms i) refl)) (λ e. rw e tt)

  body-told : (c : List ℕ) → s ≡ spaces n ++ (c ++ k) → Told s (read_body c)
  unfolding read_body
  body-told [] t = record { left = n; comment = k; commented = m; text = t }
  body-told (b ∷ x) t =
      let c : List ℕ = b ∷ x in
      let l = front is_name_byte c in
      cases (starts_labelled c) (λ q.
      let p = both (is_label l) (eqb (get_or (behind is_name_byte c) 0 0) 58) q in
      rw q (colon_told l (behind is_name_byte c) p.0 p.1 (t ∙ ap (λ (z : List ℕ). spaces n ++ (z ++ k)) (sym (front-behind is_name_byte c)))))
      (λ q. rw q (instructed [] c [] (inl (refl, refl)) t (tried forms c) refl))

told : (s : List ℕ) → Told s (read_line s)
unfolding read_line
told s = body-told s (length (front is_space (front no_comment s))) (behind no_comment s) (rest-comment s) (behind is_space (front no_comment s)) (in_parts s)

-- ---- exactly

pub word-line_exact : (s l : List ℕ) (w : ℕ) (r : List ℕ) → (read_line s ≡ word l w r) ↔ WordLine s l w r
word-line_exact s l w r = (λ e. rw e at (told s), line_read s l w r)

pub empty-line_exact : (s : List ℕ) → (read_line s ≡ empty) ↔ EmptyLine s
empty-line_exact s = (λ e. rw e at (told s), empty_read s)
