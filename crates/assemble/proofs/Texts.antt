-- A text is accepted exactly where its lines fit, its labels are as they must be and its words are few; and what is refused where a line is faulty.
-- Assumes nothing.
use Prim.Native.Nat.{ℕ, zero, suc, ◌+◌, ◌≤◌, ◌<◌}
use native.Mathlib.Nat.{add-zero, zero-add, add-suc, suc-add}
use native.Mathlib.Omega.{arith}
use mathlib.Core.Logic.{◌↔◌, ◌⊎◌, inl, inr, ⊎_elim, ⊎_map}
use mathlib.Core.Path.{◌≡◌, refl, sym, ap, ◌∙◌}
use mathlib.Core.Bool.{Bool, true, false, cond}
use mathlib.Core.List.{List, [], ◌∷◌, ◌++◌, map, map-append, append-nil}
use borrow.Author.Tests.{eqb-true, eqb-false, eq-eqb, ne_eqb, ltb-true, ltb-false, lt-ltb, le-ltb}
use lib.Dec.{eqb, ltb}
use lib.ListN.{length, get_or, take, drop, length-map, get_or-map}
use lib.Seq.{split_at}
use Rattle.encoding.specs.Bytes.{member}
use Rattle.assemble.specs.Grammar.{all, is_name_byte, Token, letter, blank, digit, name, forms, form_at, referred, Instruction}
use Rattle.assemble.specs.Lines.{Line, bad, empty, word, read_body, read_line}
use Rattle.assemble.specs.Assembly.{lines, of_words, labels_of, words_of, refers_of, FitLine, FitLines, Stands, Once, Standing, Accepted, faulty, key, doubled, missing}
use Rattle.assemble.specs.Assembly.{label_refusal, lines_refusal, refusal, placed, resolved, resolve_all, lines_image, image, Image}
use Rattle.assemble.specs.Refusals.{Until, Breaks, Overflows, Mislabelled}
use Rattle.isa.proofs.Truths.{both}
use Rattle.assemble.proofs.Scans.{false-true, label-bytes}
use Rattle.assemble.proofs.Exact.{word-line_exact, empty-line_exact}
use Rattle.assemble.proofs.Linking.{length-resolved}

-- what cannot be
pub clash : {A : Type 0} → ◌≡◌ {A = ℕ} 0 1 → A
clash e = absurd (omega arith)

-- what a Bool tells: A where it is true, B where it is false
data By (A B : Type 0) : Bool → Type 0 where
  yes : A → By A B true
  no : B → By A B false

-- that A holds, and that it does not
abbrev Tells : Type 0 → Bool → Type 0
Tells A v = By A (A → ⊥) v

abbrev Denies : Type 0 → Bool → Type 0
Denies A v = By (A → ⊥) A v

-- ---- keys

abbrev pub Keyed : List ℕ → Type 0
Keyed l = all is_name_byte l ≡ true

-- a key's first byte is a digit to the base 256, and not 0
keyed-parts : (b : ℕ) (l : List ℕ) → Keyed (b ∷ l) → (0 < b) × (b < 256) × Keyed l
keyed-parts zero l h = false-true h
keyed-parts (suc b) l h = go (ltb (suc b) 256) refl (both (is_name_byte (suc b)) (all is_name_byte l) h)
  where
    go : (v : Bool) → ltb (suc b) 256 ≡ v → (is_name_byte (suc b) ≡ true) × Keyed l → (0 < suc b) × (suc b < 256) × Keyed l
    go true q p = (omega arith, ltb-true (suc b) 256 q, p.1)
    go false q p =
        let high : (n : ℕ) → n ≤ 256 → ltb (suc b) n ≡ false = λ n k. le-ltb (suc b) n (omega (arith, k, ltb-false (suc b) 256 q)) in
        let e : is_name_byte (suc b) ≡ false = simp (high 48 (omega arith), high 58 (omega arith), high 65 (omega arith), high 91 (omega arith)) in
        false-true (sym e ∙ p.0)

pub key_same : (l m : List ℕ) → Keyed l → Keyed m → key l ≡ key m → l ≡ m
unfolding key
key_same [] [] h k e = refl
key_same [] (c ∷ m) h k e = let q = keyed-parts c m k in absurd (omega arith)
key_same (b ∷ l) [] h k e = let p = keyed-parts b l h in absurd (omega arith)
key_same (b ∷ l) (c ∷ m) h k e =
    let p = keyed-parts b l h in
    let q = keyed-parts c m k in
    let x : b ≡ c = omega arith in
    let z : l ≡ m = key_same l m p.2 q.2 (omega arith) in
    λ i. x i ∷ z i

key_tells : (l m : List ℕ) → Keyed l → Keyed m → Tells (l ≡ m) (eqb (key l) (key m))
key_tells l m h k = go (eqb (key l) (key m)) refl
  where
    go : (v : Bool) → eqb (key l) (key m) ≡ v → Tells (l ≡ m) v
    go true q = yes (key_same l m h k (eqb-true (key l) (key m) q))
    go false q = no (λ e. eqb-false (key l) (key m) q (ap key e))

-- the labels of lines that fit have keys
abbrev AllKeyed : List (List ℕ) → Type 0
AllKeyed [] = Unit
AllKeyed (l ∷ ls) = Keyed l × AllKeyed ls

keyed_at : (ls : List (List ℕ)) (i : ℕ) → AllKeyed ls → Keyed (get_or ls i [])
keyed_at [] i k = refl
keyed_at (l ∷ ls) zero k = k.0
keyed_at (l ∷ ls) (suc i) k = keyed_at ls i k.1

referred-keyed : (t : List Token) (l r : List ℕ) → Keyed l → Keyed r → Keyed (referred t l r)
unfolding referred
referred-keyed [] l r h k = k
referred-keyed (letter c ∷ t) l r h k = referred-keyed t l r h k
referred-keyed (blank ∷ t) l r h k = referred-keyed t l r h k
referred-keyed (digit j ∷ t) l r h k = referred-keyed t l r h k
referred-keyed (name ∷ t) l r h k = referred-keyed t l l h h

refer_keyed : (s : List ℕ) (w : ℕ) (r : List ℕ) → Instruction s w r → Keyed r
refer_keyed s w r i = let f = i.fits in rw f.refers (referred-keyed (form_at forms i.which).pattern f.label [] (label-bytes f.label f.named) refl)

labels-keyed : (ss : List (List ℕ)) (ls : List Line) → FitLines ss ls → AllKeyed (labels_of ls) × AllKeyed (refers_of ls)
labels-keyed [] [] f = (tt, tt)
labels-keyed [] (l ∷ ls) f = absurd f
labels-keyed (s ∷ ss) [] f = absurd f
labels-keyed (s ∷ ss) (bad ∷ ls) f = absurd f.0
labels-keyed (s ∷ ss) (empty ∷ ls) f = labels-keyed ss ls f.1
labels-keyed (s ∷ ss) (word l w r ∷ ls) f =
    let k = labels-keyed ss ls f.1 in
    let q : Keyed l = ⊎_elim (λ q. rw q.1 refl) (λ q. label-bytes l q.1) f.0.labelled in
    ((q, k.0), (refer_keyed f.0.body w r f.0.instructs, k.1))

-- ---- what the keys tell of the labels

-- a label stands at an address
stands_tells : (l : List ℕ) (ls : List (List ℕ)) → Keyed l → AllKeyed ls → Tells (Stands l ls) (member (key l) (map key ls))
unfolding member
stands_tells l [] h k = no (λ t. omega (arith, t.1))
stands_tells l (x ∷ ls) h k = go (key_tells x l k.0 h) (stands_tells l ls h k.1)
  where
    parts : Stands l (x ∷ ls) → (x ≡ l) ⊎ Stands l ls
    parts (zero, i, e) = inl e
    parts (suc j, i, e) = inr (j, omega arith, e)

    go : {v m : Bool} → Tells (x ≡ l) v → Tells (Stands l ls) m → Tells (Stands l (x ∷ ls)) (cond v true m)
    go (yes p) q = yes (0, omega arith, p)
    go (no p) (yes q) = yes (suc q.0, omega (arith, q.1), q.2)
    go (no p) (no q) = no (λ t. ⊎_elim p q (parts t))

-- no label stands on two lines
once_denies : (ls : List (List ℕ)) → AllKeyed ls → Denies (Once ls) (doubled (map key ls))
unfolding doubled key
once_denies [] k = no tt
once_denies (l ∷ ls) k = go (key_tells l [] k.0 refl) (stands_tells l ls k.0 k.1) (once_denies ls k.1)
  where
    go : {v m d : Bool} → Tells (l ≡ []) v → Tells (Stands l ls) m → Denies (Once ls) d → Denies (Once (l ∷ ls)) (cond v d (cond m true d))
    go (yes p) q (yes r) = yes (λ o. r o.1)
    go (yes p) q (no r) = no (λ n. absurd (n p), r)
    go (no p) (yes q) r = yes (λ o. o.0 p q)
    go (no p) (no q) (yes r) = yes (λ o. r o.1)
    go (no p) (no q) (no r) = no (λ n. q, r)

-- every label used stands on a line
standing_denies : (ls rs : List (List ℕ)) → AllKeyed ls → AllKeyed rs → Denies (Standing rs ls) (missing (map key rs) (map key ls))
unfolding missing key
standing_denies ls [] k h = no tt
standing_denies ls (r ∷ rs) k h = go (key_tells r [] h.0 refl) (stands_tells r ls h.0 k) (standing_denies ls rs k h.1)
  where
    go : {v m d : Bool} → Tells (r ≡ []) v → Tells (Stands r ls) m → Denies (Standing rs ls) d → Denies (Standing (r ∷ rs) ls) (cond v d (cond m d true))
    go (yes p) q (yes x) = yes (λ s. x s.1)
    go (yes p) q (no x) = no (λ n. absurd (n p), x)
    go (no p) (yes q) (yes x) = yes (λ s. x s.1)
    go (no p) (yes q) (no x) = no (λ n. q, x)
    go (no p) (no q) x = yes (λ s. q (s.0 p))

-- labels are refused 12 where they are not as they must be
abbrev Settled : Type 0 → ℕ → Type 0
Settled A v = ((v ≡ 0) × A) ⊎ ((v ≡ 12) × (A → ⊥))

labels_settled : (ls rs : List (List ℕ)) → AllKeyed ls → AllKeyed rs → Settled (Once ls × Standing rs ls) (label_refusal (map key ls) (map key rs))
labels_settled ls rs k h = go (once_denies ls k) (standing_denies ls rs k h)
  where
    go : {a b : Bool} → Denies (Once ls) a → Denies (Standing rs ls) b → Settled (Once ls × Standing rs ls) (cond a 12 (cond b 12 0))
    go (yes p) q = inr (refl, λ o. p o.0)
    go (no p) (yes q) = inr (refl, λ o. q o.1)
    go (no p) (no q) = inl (refl, (p, q))

-- ---- lines that are not faulty, and the first that is

-- none of the lines is faulty behind n words
abbrev Clear : ℕ → List Line → Type 0
Clear n [] = Unit
Clear n (bad ∷ ls) = ⊥
Clear n (empty ∷ ls) = Clear n ls
Clear n (word l w r ∷ ls) = (n < 256) × Clear (suc n) ls

-- they are those that fit, and have at most 256 words with the n
clear-fits : (ss : List (List ℕ)) (ls : List Line) (n : ℕ) → n ≤ 256 → (FitLines ss ls × (n + length (words_of ls) ≤ 256)) ↔ ((map read_line ss ≡ ls) × Clear n ls)
clear-fits [] [] n h = (λ f. (refl, tt), λ c. (tt, omega arith))
clear-fits [] (l ∷ ls) n h = (λ f. absurd f.0, λ c. let e = c.0 in clash cc)
clear-fits (s ∷ ss) [] n h = (λ f. absurd f.0, λ c. let e = c.0 in clash cc)
clear-fits (s ∷ ss) (bad ∷ ls) n h = (λ f. absurd f.0.0, λ c. absurd c.1)
clear-fits (s ∷ ss) (empty ∷ ls) n h =
    let k = clear-fits ss ls n h in
    let x = empty-line_exact s in (
      λ f. let g = k.0 (f.0.1, f.1) in (λ i. x.1 f.0.0 i ∷ g.0 i, g.1),
      λ c. let e = c.0 in let g = k.1 (cc, c.1) in ((x.0 cc, g.0), g.1),
    )
clear-fits (s ∷ ss) (word l w r ∷ ls) n h =
    let k = clear-fits ss ls (suc n) in
    let x = word-line_exact s l w r in (
      λ f. let g = (k (omega (arith, f.1))).0 (f.0.1, omega (arith, f.1)) in (λ i. x.1 f.0.0 i ∷ g.0 i, (omega (arith, f.1), g.1)),
      λ c. let e = c.0 in let g = (k c.1.0).1 (cc, c.1.1) in ((x.0 cc, g.0), omega (arith, g.1)),
    )

fits_exact : (ss : List (List ℕ)) (ls : List Line) → (FitLines ss ls × (length (words_of ls) ≤ 256)) ↔ ((map read_line ss ≡ ls) × Clear 0 ls)
fits_exact ss ls = rw zero-add at (clear-fits ss ls 0 (omega arith))

-- they are passed
passed : (a b : List Line) (n : ℕ) → Clear n a → faulty n (a ++ b) ≡ faulty (n + length (words_of a)) b
unfolding faulty
passed [] b n c = ap (λ (m : ℕ). faulty m b) (sym (add-zero n))
passed (bad ∷ a) b n c = absurd c
passed (empty ∷ a) b n c = passed a b n c
passed (word l w r ∷ a) b n c = rw (lt-ltb n 256 c.0, add-suc, ← suc-add) (passed a b (suc n) c.1)

-- a line is faulty behind n words
abbrev Fault : ℕ → Line → Type 0
Fault n bad = Unit
Fault n empty = ⊥
Fault n (word l w r) = 256 ≤ n

-- and none before it is
abbrev First : ℕ → List Line → Type 0
First n ls = (i : ℕ) × (i < length ls) × Clear n (take i ls) × Fault (n + length (words_of (take i ls))) (get_or ls i empty)

sorted : (ls : List Line) (n : ℕ) → Clear n ls ⊎ First n ls
sorted [] n = inl tt
sorted (bad ∷ ls) n = inr (0, omega arith, tt, tt)
sorted (empty ∷ ls) n = ⊎_map (λ c. c) (λ f. (suc f.0, omega (arith, f.1), f.2, f.3)) (sorted ls n)
sorted (word l w r ∷ ls) n = go (ltb n 256) refl (sorted ls (suc n))
  where
    go : (v : Bool) → ltb n 256 ≡ v → Clear (suc n) ls ⊎ First (suc n) ls → Clear n (word l w r ∷ ls) ⊎ First n (word l w r ∷ ls)
    go true q (inl c) = inl (ltb-true n 256 q, c)
    go true q (inr f) = inr (suc f.0, omega (arith, f.1), (ltb-true n 256 q, f.2), rw (add-suc, ← suc-add) f.3)
    go false q x = inr (0, omega arith, tt, omega (arith, ltb-false n 256 q))

take_read : (i : ℕ) (ss : List (List ℕ)) → map read_line (take i ss) ≡ take i (map read_line ss)
take_read zero ss = refl
take_read (suc i) [] = refl
take_read (suc i) (s ∷ ss) = ap (λ (x : List Line). read_line s ∷ x) (take_read i ss)

-- ---- the refusal of a text

-- a line breaks the grammar where it is read so
unfit : (s : List ℕ) (l : Line) → read_line s ≡ bad → FitLine s l → ⊥
unfit s bad e f = f
unfit s empty e f = let q = (empty-line_exact s).1 f in clash cc
unfit s (word l w r) e f = let q = (word-line_exact s l w r).1 f in clash cc

fit_none : (s : List ℕ) (l : Line) → read_line s ≡ l → ((x : Line) → FitLine s x → ⊥) → l ≡ bad
fit_none s bad e n = refl
fit_none s empty e n = absurd (n empty ((empty-line_exact s).0 e))
fit_none s (word l w r) e n = absurd (n (word l w r) ((word-line_exact s l w r).0 e))

module _ (t : List ℕ) where
  abbrev read : List Line
  read = map read_line (lines t)

  -- where nothing is faulty before a line, it goes by that line
  fault_at : (i : ℕ) (ls : List Line) → Until t i ls → (l : Line) → read_line (get_or (lines t) i []) ≡ l
      → faulty 0 read ≡ faulty (length (words_of ls)) (l ∷ map read_line (drop (suc i) (lines t)))
  fault_at i ls u l e =
      let c = (fits_exact (take i (lines t)) ls).0 (u.fit, u.few) in
      ap (λ (x : List (List ℕ)). faulty 0 (map read_line x)) (split_at (lines t) i [] u.inside)
      ∙ rw (map-append, c.0, e) (passed ls (l ∷ map read_line (drop (suc i) (lines t))) 0 c.1 ∙ rw zero-add)

  pub breaks_eleven : Breaks t → refusal t ≡ 11
  unfolding refusal lines_refusal faulty
  breaks_eleven b = let s = get_or (lines t) b.place [] in rw (fault_at b.place b.ls b.until bad (fit_none s (read_line s) refl b.breaks))

  pub overflows_thirteen : Overflows t → refusal t ≡ 13
  unfolding refusal lines_refusal faulty
  overflows_thirteen b =
      let s = get_or (lines t) b.place [] in
      let e = (word-line_exact s b.label b.value b.refers).1 b.takes in
      rw (fault_at b.place b.ls b.until (word b.label b.value b.refers) e, le-ltb (length (words_of b.ls)) 256 (omega (arith, b.full)))

  -- the first faulty line is of one of two kinds
  first_kind : First 0 read → Breaks t ⊎ Overflows t
  unfolding read_line read_body
  first_kind (i, h, c, x) = go (get_or read i empty) (sym (get_or-map read_line (lines t) i [])) x
    where
      before : Until t i (take i read)
      before =
          let k = (fits_exact (take i (lines t)) (take i read)).1 (take_read i (lines t), c) in
          record { inside = omega (arith, length-map (lines t) read_line); fit = k.0; few = k.1 }

      go : (l : Line) → read_line (get_or (lines t) i []) ≡ l → Fault (0 + length (words_of (take i read))) l → Breaks t ⊎ Overflows t
      go bad e y = inl (record { place = i; ls = take i read; until = before; breaks = λ l. unfit (get_or (lines t) i []) l e })
      go empty e y = absurd y
      go (word l w r) e y =
          let f = (word-line_exact (get_or (lines t) i []) l w r).0 e in
          inr (record { place = i; ls = take i read; until = before; full = omega (arith, before.few); label = l; value = w; refers = r; takes = f })

  -- where all lines fit, it goes by the labels
  fits-refusal : (ls : List Line) → FitLines (lines t) ls → length (words_of ls) ≤ 256
      → (read ≡ ls) × Settled (Once (labels_of ls) × Standing (refers_of ls) (labels_of ls)) (refusal t)
  unfolding refusal lines_refusal faulty
  fits-refusal ls f h =
      let c = (fits_exact (lines t) ls).0 (f, h) in
      let k = labels-keyed (lines t) ls f in
      let z : faulty 0 ls ≡ 0 = rw append-nil at (passed ls [] 0 c.1) in
      (c.0, rw (c.0, z) (labels_settled (labels_of ls) (refers_of ls) k.0 k.1))

  pub mislabelled_twelve : Mislabelled t → refusal t ≡ 12
  mislabelled_twelve m = ⊎_elim (λ x. absurd (m.labels x.1)) (λ x. x.0) (fits-refusal m.ls m.fit m.few).1

  -- why the number of its refusal is v
  abbrev Why : ℕ → Type 0
  Why v = cond (eqb v 0) (Accepted t read) (cond (eqb v 11) (Breaks t) (cond (eqb v 12) (Mislabelled t) (Overflows t)))

  abbrev Case : ℕ → Type 0
  Case v = (refusal t ≡ v) × Why v

  -- every text is accepted, or refused for one of three reasons
  pub cases : Case 0 ⊎ (Case 11 ⊎ (Case 12 ⊎ Case 13))
  cases = ⊎_elim labels (λ f. ⊎_elim (λ b. inr (inl (breaks_eleven b, b))) (λ b. inr (inr (inr (overflows_thirteen b, b)))) (first_kind f)) (sorted read 0)
    where
      labels : Clear 0 read → Case 0 ⊎ (Case 11 ⊎ (Case 12 ⊎ Case 13))
      labels c =
          let f = (fits_exact (lines t) read).1 (refl, c) in
          ⊎_elim (λ x. inl (x.0, record { fit = f.0; few = f.1; once = x.1.0; standing = x.1.1 }))
          (λ x. inr (inr (inl (x.0, record { ls = read; fit = f.0; few = f.1; labels = x.1 }))))
          (fits-refusal read f.0 f.1).1

  pub why : Why (refusal t)
  why = ⊎_elim (by_case 0) (⊎_elim (by_case 11) (⊎_elim (by_case 12) (by_case 13))) cases
    where
      by_case : (v : ℕ) → Case v → Why (refusal t)
      by_case v k = rw k.0 k.1

pub accepted_served : (t : List ℕ) (ls : List Line) → Accepted t ls → (refusal t ≡ 0) × (map read_line (lines t) ≡ ls)
accepted_served t ls a = let r = fits-refusal t ls a.fit a.few in (⊎_elim (λ x. x.0) (λ x. absurd (x.1 (a.once, a.standing))) r.1, r.0)

pub served_accepted : (t : List ℕ) → refusal t ≡ 0 → Accepted t (map read_line (lines t))
served_accepted t e = rw e at (why t)

-- the accepted texts are exactly those whose lines fit the grammar, with every label used standing on a line, none on two, and at most 256 words
pub accepted_exact : (t : List ℕ) → (refusal t ≡ 0) ↔ ((ls : List Line) × Accepted t ls)
accepted_exact t = (λ e. (map read_line (lines t), served_accepted t e), λ a. (accepted_served t a.0 a.1).0)

-- ---- the image

-- as many as there are words
of_length : {A : Type 0} (f : List ℕ → ℕ → List ℕ → A) (ls : List Line) → length (of_words f ls) ≡ length (words_of ls)
of_length f [] = refl
of_length f (bad ∷ ls) = of_length f ls
of_length f (empty ∷ ls) = of_length f ls
of_length f (word l w r ∷ ls) = ap suc (of_length f ls)

pub even-labels : (ls : List Line) → length (map key (labels_of ls)) ≡ length (words_of ls)
even-labels ls = length-map (labels_of ls) key ∙ of_length (λ l w r. l) ls

pub even-refers : (ls : List Line) → length (map key (refers_of ls)) ≡ length (words_of ls)
even-refers ls = length-map (refers_of ls) key ∙ of_length (λ l w r. r) ls

-- the first place of a label that stands on no two lines
placed_at : (ls : List (List ℕ)) (r : List ℕ) (j : ℕ) → AllKeyed ls → Keyed r → Once ls → (r ≡ [] → ⊥) → j < length ls → get_or ls j [] ≡ r
    → placed (key r) (map key ls) ≡ j
unfolding placed
placed_at [] r j k h o n l e = absurd (omega arith)
placed_at (x ∷ ls) r zero k h o n l e = rw (eq-eqb (key x) (key r) (ap key e))
placed_at (x ∷ ls) r (suc j) k h o n l e =
    let other : key x ≡ key r → ⊥ = λ q. let s = key_same x r k.0 h q in o.0 (λ z. n (sym s ∙ z)) (j, omega arith, e ∙ sym s) in
    rw (ne_eqb (key x) (key r) other) (ap suc (placed_at ls r j k.1 h o.1 n (omega arith) e))

-- the word at an address
resolved_at : (ks : List ℕ) (ls : List Line) (i : ℕ)
    → get_or (resolve_all ks (words_of ls) (map key (refers_of ls))) i 0 ≡ resolved ks (get_or (words_of ls) i 0) (key (get_or (refers_of ls) i []))
unfolding resolve_all key
resolved_at ks [] i = refl
resolved_at ks (bad ∷ ls) i = resolved_at ks ls i
resolved_at ks (empty ∷ ls) i = resolved_at ks ls i
resolved_at ks (word l w r ∷ ls) zero = refl
resolved_at ks (word l w r ∷ ls) (suc i) = resolved_at ks ls i

-- the image of an accepted text is the one that its lines say
pub accepted_image : (t : List ℕ) (ls : List Line) → Accepted t ls → Image ls (image t)
unfolding image lines_image key
accepted_image t ls a = rw (accepted_served t ls a).1 (record { long = long; plain = λ i e. resolved_at ks ls i ∙ rw e (omega arith); linked = linked })
  where
    ks : List ℕ
    ks = map key (labels_of ls)

    ws : List ℕ
    ws = resolve_all ks (words_of ls) (map key (refers_of ls))

    long : length ws ≡ length (words_of ls)
    long = length-resolved ks (words_of ls) (map key (refers_of ls)) (even-refers ls)

    linked : (i j : ℕ) → (get_or (refers_of ls) i [] ≡ [] → ⊥) → j < length ws → get_or (labels_of ls) j [] ≡ get_or (refers_of ls) i [] → get_or ws i 0 ≡ get_or (words_of ls) i 0 + j
    linked i j n h e =
        let k = labels-keyed (lines t) ls a.fit in
        let r = get_or (refers_of ls) i [] in
        let y : Keyed r = keyed_at (refers_of ls) i k.1 in
        let p : placed (key r) ks ≡ j = placed_at (labels_of ls) r j k.0 y a.once n (omega (arith, h, long, of_length (λ l w r. l) ls)) e in
        resolved_at ks ls i ∙ rw (ne_eqb (key r) 0 (λ q. n (key_same r [] y refl q)), p)
