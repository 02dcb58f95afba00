-- What is known of an input that is not refused: its sizes, its starting words; and what of its marks is hidden.
-- Assumes nothing.
use Prim.Native.Nat.{ℕ, zero, suc, ◌-◌, ◌≤◌, ◌<◌}
use native.Mathlib.Omega.{arith}
use mathlib.Core.Path.{◌≡◌, refl, sym, ◌∙◌}
use mathlib.Core.Bool.{Bool, true, false, cond, ◌||◌}
use mathlib.Core.List.{List, [], ◌∷◌, ◌++◌}
use borrow.Author.Tests.{ltb-false, eqb-true, eqb-false}
use lib.Dec.{eqb, ltb}
use lib.ListN.{length, get_or, take, replicate, length-append, length-take, length-replicate}
use lib.Seq.{get_or-take}
use Rattle.isa.specs.Sizes.{memory_words}
use Rattle.isa.proofs.Texts.{padded_at}
use Rattle.vm.specs.Calls.{image_words}
use Rattle.marks.specs.Owners.{hidden_from}
use Rattle.marks.proofs.Owners.{hidden-none, hidden_either}
use Rattle.guard.specs.Input.{Input, guard_refusal, input_refusal, break_limit, budget_limit}
use Rattle.secret.proofs.Levels.{Joins}
use Rattle.secret.specs.Widths.{report_limit}
use Rattle.secret.specs.Public.{report_refusal}

pub record Accepted (i : Input) : Type 0 where
  pub short : length i.image ≤ memory_words
  pub full : length i.marks ≡ memory_words
  pub few : length i.breaks ≤ break_limit
  pub allowed : i.budget ≤ budget_limit

-- a test that is passed, with a refusal on either side
pub passed : (b : Bool) (n x : ℕ) → cond b (suc n) x ≡ 0 → (b ≡ false) × (x ≡ 0)
passed true n x e = absurd (omega arith)
passed false n x e = (refl, e)

pub met : (b : Bool) (x n : ℕ) → cond b x (suc n) ≡ 0 → (b ≡ true) × (x ≡ 0)
met true x n e = (refl, e)
met false x n e = absurd (omega arith)

pub input_accepted : (i : Input) → input_refusal i ≡ 0 → Accepted i
unfolding guard_refusal
input_accepted i e =
    let a = passed (ltb memory_words (length i.image)) 0 _ e in
    let b = met (eqb (length i.marks) memory_words) _ 1 a.1 in
    let c = passed (ltb break_limit (length i.breaks)) 2 _ b.1 in
    let d = passed (ltb budget_limit i.budget) 3 _ c.1 in
    record {
      short = ltb-false memory_words (length i.image) a.0;
      full = eqb-true (length i.marks) memory_words b.0;
      few = ltb-false break_limit (length i.breaks) c.0;
      allowed = ltb-false budget_limit i.budget d.0;
    }

-- a report that is not refused is of an input that is not, in a buffer that holds every report
pub accepted : (i : Input) (room : ℕ) → report_refusal i room ≡ 0 → Accepted i × (report_limit ≤ room)
unfolding report_refusal
accepted i room e = go (eqb (input_refusal i) 0) refl e
  where
    go : (b : Bool) → eqb (input_refusal i) 0 ≡ b → cond b (cond (ltb room report_limit) 5 0) (input_refusal i) ≡ 0 → Accepted i × (report_limit ≤ room)
    go true t h = (input_accepted i (eqb-true (input_refusal i) 0 t), ltb-false room report_limit (passed (ltb room report_limit) 4 0 h).0)
    go false t h = absurd (eqb-false (input_refusal i) 0 t h)

-- ---- the starting words

pub length-words : (image : List ℕ) → length (image_words image) ≡ memory_words
unfolding image_words
length-words image = simp (length-append, length-take, length-replicate) (omega arith)

module _ (n : ℕ) where
  pub append_below : (l m : List ℕ) → ((i : ℕ) → get_or l i 0 < n) → ((i : ℕ) → get_or m i 0 < n) → (i : ℕ) → get_or (l ++ m) i 0 < n
  append_below [] m p q i = q i
  append_below (x ∷ l) m p q zero = p 0
  append_below (x ∷ l) m p q (suc i) = append_below l m (λ a. p (suc a)) q i

  take_below : (k : ℕ) (l : List ℕ) → 0 < n → ((i : ℕ) → get_or l i 0 < n) → (i : ℕ) → get_or (take k l) i 0 < n
  take_below zero l z p i = z
  take_below (suc k) [] z p i = z
  take_below (suc k) (x ∷ l) z p zero = p 0
  take_below (suc k) (x ∷ l) z p (suc i) = take_below k l z (λ a. p (suc a)) i

  zeros_below : (k : ℕ) → 0 < n → (i : ℕ) → get_or (replicate k 0) i 0 < n
  zeros_below zero z i = z
  zeros_below (suc k) z zero = z
  zeros_below (suc k) z (suc i) = zeros_below k z i

pub words-below : (image : List ℕ) → ((a : ℕ) → get_or image a 0 < 65536) → (a : ℕ) → get_or (image_words image) a 0 < 65536
unfolding image_words
words-below image h =
    let z : 0 < 65536 = omega arith in
    append_below 65536 (take memory_words image) (replicate (memory_words - length image) 0) (take_below 65536 memory_words image z h) (zeros_below 65536 (memory_words - length image) z)

-- the word at an address
pub words_at : (image : List ℕ) (a : ℕ) → a < memory_words → get_or (image_words image) a 0 ≡ get_or image a 0
unfolding image_words
words_at image a h = padded_at (take memory_words image) (memory_words - length image) a ∙ get_or-take memory_words image a 0 h

-- ---- what a clearance hides of a union

pub or_false : (a b : Bool) → (a || b) ≡ false → (a ≡ false) × (b ≡ false)
or_false true true e = (e, e)
or_false true false e = (e, refl)
or_false false b e = (refl, e)

pub clearance_joins : (c : ℕ) → Joins (hidden_from c)
clearance_joins c = record { none = hidden-none c; both = λ a b e. or_false (hidden_from c a) (hidden_from c b) (sym (hidden_either c a b) ∙ e) }
