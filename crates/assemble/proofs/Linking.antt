-- From labels to addresses: the first place of a key, labels on two lines and on none, and the loop that puts addresses into words.
-- Assumes nothing.
use Prim.Native.Nat.{ℕ, zero, suc, ◌+◌, ◌-◌, ◌≤◌, ◌<◌}
use native.Mathlib.Omega.{arith}
use native.Mathlib.Numerals.{add-one}
use mathlib.Core.Path.{◌≡◌, refl, sym, ap, ◌∙◌}
use mathlib.Core.Bool.{Bool, true, false, cond}
use mathlib.Core.List.{List, [], ◌∷◌, ◌++◌, map, append_assoc, append-nil}
use borrow.Author.Tests.{lt-ltb}
use borrow.Table.Steps.{cases}
use lib.Dec.{eqb, ltb, leb-suc-suc}
use lib.ListN.{length, get_or, take, drop, set, replicate, length-set, take-append-drop, drop_of_length-le}
use lib.Seq.{drop-cons, drop-drop, take-suc-set, drop-set-lt}
use Rattle.isa.specs.Text.{padded}
use Rattle.encoding.specs.Bytes.{member}
use Rattle.assemble.specs.declared.Assembled.{Assembled}
use Rattle.assemble.specs.declared.lines.Entry.{Entry}
use Rattle.assemble.specs.Lines.{Line, bad, empty, word}
use Rattle.assemble.specs.Assembly.{key, labels_of, words_of, refers_of, placed, doubled, missing, resolved, resolve_all}
use Rattle.assemble.specs.Answer.{answered}
use Rattle.assemble.specs.Reading.{Linkable, entry, entries_of, labels_in, words_in, refers_in, place_of, address_of, resolved_as}
use Rattle.encoding.specs.declared.refusal.Refusal.{Refusal}
use Rattle.encoding.specs.declared.refusal.Refusal.TheVariants.{Label}
use Rattle.std.specs.Prelude.{Option, Some, None, Result, Ok, Err}
use Rattle.std.specs.List.{position_or_len}

-- ---- a turn of the loops over keys

next : (xs : List ℕ) (i : ℕ) → i < length xs → drop i xs ≡ get_or xs i 0 ∷ drop (i + 1) xs
next xs i h = rw add-one (drop-cons xs i 0 h)

-- a key is there where its first place is
member-placed : (k : ℕ) (xs : List ℕ) → member k xs ≡ ltb (placed k xs) (length xs)
unfolding member placed
member-placed k [] = refl
member-placed k (x ∷ xs) =
    cases (eqb x k) (λ e. rw e (sym (lt-ltb 0 (suc (length xs)) (omega arith)))) (λ e. rw e (member-placed k xs ∙ sym (leb-suc-suc (suc (placed k xs)) (length xs))))

-- ---- what stands in an entry

pub length_in : (f : Entry → ℕ) (es : List Entry) → length (map f es) ≡ length es
length_in f [] = refl
length_in f (e ∷ es) = ap suc (length_in f es)

pub labels-drop : (i : ℕ) (es : List Entry) → labels_in (drop i es) ≡ drop i (labels_in es)
labels-drop zero es = refl
labels-drop (suc i) [] = refl
labels-drop (suc i) (e ∷ es) = labels-drop i es

pub get_or-in : (f : Entry → ℕ) (es : List Entry) (i : ℕ) (d : Entry) → get_or (map f es) i (f d) ≡ f (get_or es i d)
get_or-in f [] i d = refl
get_or-in f (e ∷ es) zero d = refl
get_or-in f (e ∷ es) (suc i) d = get_or-in f es i d

-- the first place of a label's key, by the word of the search
placed-position : (k : ℕ) (es : List Entry) → placed k (labels_in es) ≡ position_or_len (λ e. eqb e.label k) es
unfolding placed
placed-position k [] = refl
placed-position k (e ∷ es) = cases (eqb e.label k) (λ q. rw q) (λ q. rw q (let f : suc (placed k (labels_in es)) ≡ 1 + placed k (labels_in es) = omega arith in f ∙ ap (λ (n : ℕ). 1 + n) (placed-position k es)))

-- a search for it answers its place
pub search_place : (k : ℕ) (es : List Entry) (r : Option ℕ) → r ≡ cond (ltb (position_or_len (λ e. eqb e.label k) es) (length es)) (Some (position_or_len (λ e. eqb e.label k) es)) None
    → r ≡ place_of k (labels_in es)
search_place k es r e =
    let l : length (labels_in es) ≡ length es = length_in (λ (e : Entry). e.label) es in
    e ∙ rw (← (placed-position k es), ← l, ← (member-placed k (labels_in es)))

pub labels_lem : (ls : List Line) → labels_in (entries_of ls) ≡ map key (labels_of ls)
labels_lem [] = refl
labels_lem (bad ∷ ls) = labels_lem ls
labels_lem (empty ∷ ls) = labels_lem ls
labels_lem (word l w r ∷ ls) = ap (λ (xs : List ℕ). key l ∷ xs) (labels_lem ls)

pub words_lem : (ls : List Line) → words_in (entries_of ls) ≡ words_of ls
words_lem [] = refl
words_lem (bad ∷ ls) = words_lem ls
words_lem (empty ∷ ls) = words_lem ls
words_lem (word l w r ∷ ls) = ap (λ (xs : List ℕ). w ∷ xs) (words_lem ls)

pub refers_lem : (ls : List Line) → refers_in (entries_of ls) ≡ map key (refers_of ls)
refers_lem [] = refl
refers_lem (bad ∷ ls) = refers_lem ls
refers_lem (empty ∷ ls) = refers_lem ls
refers_lem (word l w r ∷ ls) = ap (λ (xs : List ℕ). key r ∷ xs) (refers_lem ls)

-- a label on two lines: whether there is none (v), and whether it stands further on (u)
pub doubled-turn : (ks : List ℕ) (i : ℕ) → i < length ks → (v u : Bool) → eqb (get_or ks i 0) 0 ≡ v → member (get_or ks i 0) (drop (i + 1) ks) ≡ u
    → doubled (drop i ks) ≡ cond v (doubled (drop (i + 1) ks)) (cond u true (doubled (drop (i + 1) ks)))
unfolding doubled
doubled-turn ks i h v u e f = rw (next ks i h, e, f)

-- a label on none: whether there is none to look for (v), and whether it is there (u)
missing-turn : (ks rs : List ℕ) (i : ℕ) → i < length rs → (v u : Bool) → eqb (get_or rs i 0) 0 ≡ v → member (get_or rs i 0) ks ≡ u
    → missing (drop i rs) ks ≡ cond v (missing (drop (i + 1) rs) ks) (cond u (missing (drop (i + 1) rs) ks) true)
unfolding missing
missing-turn ks rs i h v u e f = rw (next rs i h, e, f)

-- ---- the image

pub length-resolved : (ks ws rs : List ℕ) → length rs ≡ length ws → length (resolve_all ks ws rs) ≡ length ws
unfolding resolve_all
length-resolved ks [] rs e = refl
length-resolved ks (w ∷ ws) [] e = absurd (omega arith)
length-resolved ks (w ∷ ws) (r ∷ rs) e = ap suc (length-resolved ks ws rs (omega arith))

-- words, labels and references that give an image of 16-bit words
pub record Fit (ws ks rs : List ℕ) : Type 0 where
  pub few : length ws ≤ 256
  pub even : length rs ≡ length ws
  pub small : (i : ℕ) → i < length ws → resolved ks (get_or ws i 0) (get_or rs i 0) < 65536

pub fit : (es : List Entry) → Linkable es → Fit (words_in es) (labels_in es) (refers_in es)
fit es p =
    let w : length (words_in es) ≡ length es = length_in (λ (e : Entry). e.word) es in
    let r : length (refers_in es) ≡ length es = length_in (λ (e : Entry). e.refers) es in
    record { few = rw w p.few; even = r ∙ sym w; small = λ i h. p.small i (rw w at h) }

-- what is done of the image, with what is left, is the whole; behind it there are zeros; and from i on a label is missing where one is at all
pub record Resolving (ws ks rs out : List ℕ) (i : ℕ) : Type 0 where
  pub inside : i ≤ length ws
  pub room : length out ≡ 256
  pub done : take i out ++ resolve_all ks (drop i ws) (drop i rs) ≡ resolve_all ks ws rs
  pub zeros : drop i out ≡ replicate (256 - i) 0
  pub lost : missing (drop i rs) ks ≡ missing rs ks

abbrev pub resolved_by : List ℕ → List ℕ → List ℕ → Result Assembled Refusal
resolved_by ws ks rs = answered (cond (missing rs ks) 12 0) (resolve_all ks ws rs)

module _ (ws ks rs out : List ℕ) (i : ℕ) (p : Fit ws ks rs) (x : Resolving ws ks rs out i) where
  abbrev w : ℕ
  w = get_or ws i 0

  abbrev r : ℕ
  r = get_or rs i 0

  more : (v : ℕ) → i < length ws → v ≡ resolved ks w r → missing (drop i rs) ks ≡ missing (drop (i + 1) rs) ks → Resolving ws ks rs (set out i v) (i + 1)
  unfolding resolve_all
  more v h q m =
      let g : i < length rs = omega (arith, p.even) in
      let a : resolve_all ks (drop i ws) (drop i rs) ≡ v ∷ resolve_all ks (drop (i + 1) ws) (drop (i + 1) rs) = rw (q, next ws i h, next rs i g) in
      let b : take (i + 1) (set out i v) ≡ take i out ++ (v ∷ []) = rw add-one (take-suc-set out i v (omega (arith, x.room, p.few))) in
      let d : drop (i + 1) (set out i v) ≡ drop (i + 1) out = drop-set-lt (i + 1) out i v (omega arith) in
      let e : 256 - i ≡ suc (256 - (i + 1)) = omega (arith, p.few) in
      let z : drop (i + 1) out ≡ replicate (256 - (i + 1)) 0 = sym (drop-drop 1 i out) ∙ ap (drop 1) (x.zeros ∙ ap (λ (n : ℕ). replicate n 0) e) in
      record { inside = omega arith; room = length-set out i v ∙ x.room; done = rw (b, append_assoc, ← a) x.done; zeros = d ∙ z; lost = sym m ∙ x.lost }

  -- where the label that the word refers to has an address, or it refers to none
  pub address_turn : (a : ℕ) → i < length ws → Ok a ≡ address_of ks r → (w + a < 65536) × Resolving ws ks rs (set out i (w + a)) (i + 1)
  address_turn a h e =
      cases (eqb r 0)
      (λ z.
      let q : w + a ≡ resolved ks w r = rw z (let o : Ok a ≡ Ok 0 = rw z at e in let n : a ≡ 0 = cc o in ap (λ (x : ℕ). w + x) n) in
      (rw q (p.small i h), more (w + a) h q (missing-turn ks rs i (omega (arith, p.even)) true _ z refl)))
      (λ z. cases (member r ks)
      (λ m.
      let q : w + a ≡ resolved ks w r = rw z (let o : Ok a ≡ Ok (placed r ks) = rw (z, m) at e in let n : a ≡ placed r ks = cc o in ap (λ (x : ℕ). w + x) n) in
      (rw q (p.small i h), more (w + a) h q (missing-turn ks rs i (omega (arith, p.even)) false true z m)))
      (λ m. let o : Ok a ≡ Err Label = rw (z, m) at e in absurd (cc o)))

  -- where that label stands on no line
  pub missing_turn : (b : Refusal) → i < length ws → Err b ≡ address_of ks r → Err b ≡ resolved_by ws ks rs
  unfolding answered
  missing_turn b h e =
      cases (eqb r 0)
      (λ z. let o : Err b ≡ Ok 0 = rw z at e in absurd (cc o))
      (λ z. cases (member r ks)
      (λ m. let o : Err b ≡ Ok (placed r ks) = rw (z, m) at e in absurd (cc o))
      (λ m.
      let o : Err b ≡ Err Label = rw (z, m) at e in
      let l : missing rs ks ≡ true = sym x.lost ∙ missing-turn ks rs i (omega (arith, p.even)) false false z m in
      let q : b ≡ Label = cc o in
      rw l (ap (λ (e : Refusal). Err e) q)))

  pub resolved-all : length ws ≤ i → Ok (record { words = out; count = length ws }) ≡ resolved_by ws ks rs
  unfolding resolve_all padded missing answered
  resolved-all h =
      let z : resolve_all ks (drop i ws) (drop i rs) ≡ [] = rw (drop_of_length-le ws {i = i} h) in
      let t : take i out ≡ resolve_all ks ws rs = rw (z, append-nil) at x.done in
      let l : length (resolve_all ks ws rs) ≡ length ws = length-resolved ks ws rs p.even in
      let n : i ≡ length ws = omega (arith, x.inside) in
      let o : out ≡ resolve_all ks ws rs ++ replicate (256 - length ws) 0 = sym (take-append-drop i out) ∙ rw (t, x.zeros, n) in
      let m : missing rs ks ≡ false = sym x.lost ∙ rw (drop_of_length-le rs {i = i} (omega (arith, p.even))) in
      rw (m, o, l)

-- ---- the same of the entries

module _ (es : List Entry) (out : List ℕ) (i : ℕ) (p : Linkable es) (x : Resolving (words_in es) (labels_in es) (refers_in es) out i) where
  abbrev at_i : Entry
  at_i = get_or es i (entry 0 0 0)

  refers_at : get_or (refers_in es) i 0 ≡ at_i.refers
  refers_at = get_or-in (λ (e : Entry). e.refers) es i (entry 0 0 0)

  word_at : get_or (words_in es) i 0 ≡ at_i.word
  word_at = get_or-in (λ (e : Entry). e.word) es i (entry 0 0 0)

  within : i < length es → i < length (words_in es)
  within h = rw (length_in (λ (e : Entry). e.word) es) h

  pub entry_turn : (a : ℕ) → i < length es → Ok a ≡ address_of (labels_in es) at_i.refers
      → (at_i.word + a < 65536) × Resolving (words_in es) (labels_in es) (refers_in es) (set out i (at_i.word + a)) (i + 1)
  entry_turn a h e = rw word_at at (address_turn (words_in es) (labels_in es) (refers_in es) out i (fit es p) x a (within h) (rw refers_at e))

  pub entry_missing : (b : Refusal) → i < length es → Err b ≡ address_of (labels_in es) at_i.refers → Err b ≡ resolved_as es
  unfolding resolved_as
  entry_missing b h e = missing_turn (words_in es) (labels_in es) (refers_in es) out i (fit es p) x b (within h) (rw refers_at e)

  pub entries_end : length es ≤ i → Ok (record { words = out; count = length es }) ≡ resolved_as es
  unfolding resolved_as
  entries_end h =
      let l : length (words_in es) ≡ length es = length_in (λ (e : Entry). e.word) es in
      rw l at (resolved-all (words_in es) (labels_in es) (refers_in es) out i (fit es p) x (rw l h))
