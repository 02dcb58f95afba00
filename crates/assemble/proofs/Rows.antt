-- Lines as rows of numbers, and the loop over the lines of a text.
-- Assumes nothing.
use Prim.Native.Nat.{ℕ, ◌+◌, ◌-◌, ◌≤◌, ◌<◌}
use native.Mathlib.Nat.{add-zero}
use native.Mathlib.Omega.{arith}
use native.Mathlib.Numerals.{add-one}
use mathlib.Core.Path.{◌≡◌, refl, sym, ap, ◌∙◌}
use mathlib.Core.Bool.{true, false, cond, and-true, and-false}
use mathlib.Core.List.{List, [], ◌∷◌, ◌++◌, map, append_assoc, append-nil}
use borrow.Author.Tests.{eq-eqb, ne_eqb, lt-ltb, le-ltb}
use borrow.Table.Steps.{cases}
use lib.Dec.{eqb}
use lib.ListN.{length, get_or, take, drop, set, length-drop, length-set, drop_of_length-le}
use lib.Seq.{take-suc-set, get_or-drop}
use Rattle.assemble.specs.Grammar.{front, behind, is_space, is_name_byte, is_label, forms, Found, none, found, tried}
use Rattle.assemble.specs.Lines.{Line, bad, empty, word, lined, starts_labelled, after_colon, read_body, read_line}
use Rattle.assemble.specs.Assembly.{lines, in_front, faulty, key}
use Rattle.assemble.specs.Reading.{in_line, Passed, label_key, seen, row, row_seen, row_after, colon_key, LineAt, lines_from, entry, entries_of, Held}
use Rattle.std.specs.Prelude.{Option, Some, None, IfSome}
use Rattle.assemble.specs.declared.lines.Entry.{Entry}
use Rattle.assemble.specs.declared.lines.Row.{Row}
use Rattle.assemble.specs.declared.lines.Row.TheVariants.{Empty, Word}
use Rattle.assemble.proofs.Steps.{passed_front}
use Rattle.assemble.specs.declared.text.Bounds.{Bounds}

-- ---- a line

pub row-lined : (l : List ℕ) (o : Found) → row (lined l o) ≡ row_seen (key l) (seen o)
row-lined l none = refl
row-lined l (found w r) = refl

row-after : (l s : List ℕ) → row (after_colon l s) ≡ row_after (key l) s
row-after l s = cases (is_space (get_or s 0 0)) (λ e. rw e (row-lined l (tried forms (behind is_space s)))) (λ e. rw e)

pub body-none : (s : List ℕ) → length s ≡ 0 → row (read_body s) ≡ row empty
unfolding read_body
body-none [] e = refl
body-none (b ∷ s) e = absurd (omega arith)

pub body-some : (s : List ℕ) → (length s ≡ 0 → ⊥)
    → row (read_body s) ≡ cond (starts_labelled s) (row_after (key (front is_name_byte s)) (drop 1 (behind is_name_byte s))) (row_seen 0 (seen (tried forms s)))
unfolding read_body key
body-some [] e = absurd (e refl)
body-some (b ∷ s) e =
    let a = row-after (front is_name_byte (b ∷ s)) (drop 1 (behind is_name_byte (b ∷ s))) in
    cases (starts_labelled (b ∷ s)) (λ q. rw q a) (λ q. rw q (row-lined [] (tried forms (b ∷ s))))

-- ---- the label in front of a line

module _ (s : List ℕ) (e : ℕ) (p : Passed is_name_byte s 0 e) where
  colon_at : get_or (behind is_name_byte s) 0 0 ≡ get_or s e 0
  colon_at = ap (λ (x : List ℕ). get_or x 0 0) (sym p.left) ∙ get_or-drop e s 0 0 ∙ ap (λ (n : ℕ). get_or s n 0) (add-zero e)

  pub no_colon : (get_or s e 0 ≡ 58 → ⊥) → None ≡ colon_key s
  no_colon n = rw (colon_at, ne_eqb (get_or s e 0) 58 n, and-false (is_label (front is_name_byte s)))

  pub with_colon : {r : Option ℕ} → get_or s e 0 ≡ 58 → r ≡ label_key (take e s) → r ≡ colon_key s
  with_colon h k = k ∙ ap label_key (passed_front p) ∙ rw (colon_at, eq-eqb (get_or s e 0) 58 h, and-true (is_label (front is_name_byte s)))

pub some_always : {P : Type 0} (o : Option ℕ) → P → IfSome o (λ l. P)
some_always None p = tt
some_always (Some l) p = p

pub labelled-none : (s : List ℕ) → colon_key s ≡ None → starts_labelled s ≡ false
labelled-none s e = cases (starts_labelled s) (λ q. absurd (cc (rw q at e))) (λ q. q)

pub labelled-some : (s : List ℕ) (l : ℕ) → colon_key s ≡ Some l → (starts_labelled s ≡ true) × (l ≡ key (front is_name_byte s))
labelled-some s l e = cases (starts_labelled s) (λ q. (q, let p : Some (key (front is_name_byte s)) ≡ Some l = rw q at e in cc p)) (λ q. absurd (cc (rw q at e)))

-- ---- the lines of a text

pub lines_first : (s : List ℕ) → 0 < length s → lines s ≡ front in_line s ∷ lines (drop 1 (behind in_line s))
unfolding lines
lines_first [] h = absurd (omega arith)
lines_first (b ∷ []) h = cases (eqb b 10) (λ e. rw e) (λ e. rw e)
lines_first (b ∷ c ∷ s) h = cases (eqb b 10) (λ e. rw e) (λ e. rw e (ap (in_front b) (lines_first (c ∷ s) (omega arith))))

pub lines_next : (t : List ℕ) (at : ℕ) (b : Bounds) → at < length t → LineAt t at b → lines_from t at ≡ read_line (take (b.end - at) (drop at t)) ∷ lines_from t b.next
lines_next t at b h x =
    let f = lines_first (drop at t) (rw length-drop (omega arith)) in
    ap (map read_line) f ∙ rw (x.line, x.rest)

-- ---- the loop over the lines

-- what is collected, with what is left to read, is what all lines give
pub record Going (t : List ℕ) (at n : ℕ) (es : List Entry) : Type 0 where
  pub few : n ≤ 256
  pub room : length es ≡ 256
  pub faults : faulty n (lines_from t at) ≡ faulty 0 (lines_from t 0)
  pub entries : take n es ++ entries_of (lines_from t at) ≡ entries_of (lines_from t 0)

stored : (xs ys : List Entry) (n : ℕ) (v : Entry) → n < length xs → take (n + 1) (set xs n v) ++ ys ≡ take n xs ++ (v ∷ ys)
stored xs ys n v h = rw (add-one, take-suc-set xs n v h, append_assoc)

-- after the row of a line that breaks the grammar, of an empty one, and of one with an instruction, for which there is room or not
abbrev pub Turn : List ℕ → ℕ → List Entry → ℕ → Option Row → Type 0
Turn t n es next None = faulty 0 (lines_from t 0) ≡ 11
Turn t n es next (Some Empty) = Going t next n es
Turn t n es next (Some (Word e)) = (n ≡ 256 → faulty 0 (lines_from t 0) ≡ 13) × ((n ≡ 256 → ⊥) → Going t next (n + 1) (set es n e))

module _ (t : List ℕ) (at n : ℕ) (es : List Entry) (g : Going t at n es) where
  pub going_turn : (next : ℕ) (l : Line) → lines_from t at ≡ l ∷ lines_from t next → Turn t n es next (row l)
  unfolding faulty
  going_turn next bad e = sym g.faults ∙ ap (faulty n) e
  going_turn next empty e = record { few = g.few; room = g.room; faults = sym (ap (faulty n) e) ∙ g.faults; entries = rw e at g.entries }
  going_turn next (word a w b) e = (
    λ f. sym g.faults ∙ ap (faulty n) e ∙ rw (le-ltb n 256 (omega arith)),
    λ f.
        let h : n < 256 = omega (arith, g.few) in
        record {
          few = omega arith;
          room = length-set es n (entry (key a) w (key b)) ∙ g.room;
          faults = rw add-one (sym (ap (faulty n) e ∙ rw (lt-ltb n 256 h)) ∙ g.faults);
          entries = stored es _ n (entry (key a) w (key b)) (omega (arith, g.room)) ∙ (rw e at g.entries);
        },
  )

  -- nothing is left
  pub going_end : length t ≤ at → (0 ≡ faulty 0 (lines_from t 0)) × Held (lines_from t 0) n es
  unfolding faulty lines
  going_end h =
      let e : lines_from t at ≡ [] = rw (drop_of_length-le t {i = at} h) in
      (sym (ap (faulty n) e) ∙ g.faults, record { few = g.few; room = g.room; entries = rw (e, append-nil) at g.entries })
