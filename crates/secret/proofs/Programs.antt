-- The laws of `specs/Program.antt`: the tests that an input passes, that an input as long as its counts say is refused where the call for a report refuses, the answer, and what the code reads.
-- Assumes nothing.
use Prim.Native.Nat.{ℕ, zero, suc, ◌+◌, ◌-◌, ◌*◌, ◌≤◌, ◌<◌}
use native.Mathlib.Omega.{arith}
use mathlib.Core.Path.{◌≡◌, refl, sym, ap, ◌∙◌}
use mathlib.Core.Bool.{Bool, true, false, cond}
use mathlib.Core.List.{List}
use Rattle.std.specs.Prelude.{Ok, Err}
use borrow.Author.Tests.{ltb-false, eqb-true, eq-eqb}
use lib.Dec.{eqb, ltb}
use lib.ListN.{length, take, drop, get_or, length-drop}
use lib.Seq.{length-take-le, get_or-drop}
use Rattle.isa.specs.Sizes.{memory_words}
use Rattle.encoding.specs.Bytes.{numbers, read_number, read_words}
use Rattle.encoding.proofs.Written.{take-over}
use Rattle.encoding.proofs.Numbers.{length-numbers, numbers-below}
use Rattle.history.proofs.Parts.{words_inside}
use Rattle.guard.specs.Input.{input_from, guard_refusal, break_limit, budget_limit}
use Rattle.secret.specs.Report.{report_bytes}
use Rattle.secret.specs.Widths.{report_limit}
use Rattle.secret.specs.Public.{report_refusal}
use Rattle.encoding.specs.Answer.{Outcome, Told, outcome, unless_refused}
use Rattle.encoding.specs.declared.refusal.Refusal.{Refusal}
use Rattle.encoding.specs.Refusal.{refusal_number, told}
use Rattle.secret.specs.Outcome.{delivered, report_outcome, report_in}
use Rattle.secret.specs.Program.{image_length, marks_at, budget_at, count_at, breaks_at, clearance_at, length_due, budget_in, break_count, input_of, first_refusal, bytes_refusal, bytes_outcome}
use Rattle.secret.proofs.Accepts.{passed, met}
use Rattle.secret.proofs.Calls.{answered, refusal-some, refused-number}
use Rattle.secret.proofs.Lengths.{report_fits}

-- ---- the tests

-- all are passed
pub record Passed (words count budget room : ℕ) (whole : Bool) : Type 0 where
  pub short : words ≤ memory_words
  pub few : count ≤ break_limit
  pub allowed : budget ≤ budget_limit
  pub roomy : report_limit ≤ room
  pub ends : whole ≡ true

pub all-passed : (words count budget room : ℕ) (whole : Bool) → first_refusal words count budget room whole ≡ 0 → Passed words count budget room whole
unfolding first_refusal
all-passed words count budget room whole e =
    let a = passed (ltb memory_words words) 0 _ e in
    let c = passed (ltb break_limit count) 2 _ a.1 in
    let d = passed (ltb budget_limit budget) 3 _ c.1 in
    let f = passed (ltb room report_limit) 4 _ d.1 in
    record {
      short = ltb-false memory_words words a.0;
      few = ltb-false break_limit count c.0;
      allowed = ltb-false budget_limit budget d.0;
      roomy = ltb-false room report_limit f.0;
      ends = (met whole 0 5 f.1).0;
    }

-- ---- an input that is not refused

module _ (b : List ℕ) (room : ℕ) (e : bytes_refusal b room ≡ 0) where
  pub bytes-passed : Passed (image_length b) (break_count b) (budget_in b) room (eqb (length b) (length_due (image_length b) (break_count b)))
  unfolding bytes_refusal
  bytes-passed = all-passed _ _ _ _ _ e

  pub bytes_end : length b ≡ length_due (image_length b) (break_count b)
  bytes_end = eqb-true (length b) (length_due (image_length b) (break_count b)) bytes-passed.ends

-- ---- an input as long as its counts say

-- the call's refusal and the program's, by the tests of the image, the breakpoints, the budget and the buffer; the marks are all there
abbrev by_call : Bool → Bool → Bool → ℕ
by_call a c d = cond a 1 (cond c 3 (cond d 4 0))

agree : (a c d f : Bool) → ◌≡◌ {A = ℕ} (cond a 1 (cond c 3 (cond d 4 (cond f 5 0)))) (cond (eqb (by_call a c d) 0) (cond f 5 0) (by_call a c d))
agree true c d f = refl
agree false true d f = refl
agree false false true f = refl
agree false false false f = refl

-- it is refused where the call for a report refuses
pub whole_refusal : (b : List ℕ) (room : ℕ) → length b ≡ length_due (image_length b) (break_count b) → bytes_refusal b room ≡ report_refusal (input_of b) room
unfolding bytes_refusal first_refusal report_refusal guard_refusal input_of
whole_refusal b room l =
    let n = image_length b in
    let k = break_count b in
    let i : length (numbers 2 n (drop 2 b)) ≡ n = length-numbers 2 n (drop 2 b) in
    let m : length (take memory_words (drop (marks_at n) b)) ≡ memory_words = length-take-le memory_words (drop (marks_at n) b) (rw length-drop (omega arith)) in
    let s : length (take k (drop (breaks_at n) b)) ≡ k = length-take-le k (drop (breaks_at n) b) (rw length-drop (omega arith)) in
    rw (eq-eqb (length b) (length_due n k) l, i, m, s) (agree (ltb memory_words n) (ltb break_limit k) (ltb budget_limit (budget_in b)) (ltb room report_limit))

-- what the program does not refuse, the call does not
pub bytes_accepted : (b : List ℕ) (room : ℕ) → bytes_refusal b room ≡ 0 → report_refusal (input_of b) room ≡ 0
bytes_accepted b room e = sym (whole_refusal b room (bytes_end b room e)) ∙ e

-- ---- the answer

module _ (b out : List ℕ) where
  pub bytes_by : {n : ℕ} → n ≡ bytes_refusal b (length out) → (n ≡ 0 → ⊥) → outcome (record { refused = n; length = 0 }) out ≡ bytes_outcome b out
  unfolding bytes_outcome
  bytes_by {n} e h = refused-number n out _ h ∙ ap (λ (k : ℕ). unless_refused k out (delivered (report_bytes (input_of b)) out)) e

  pub bytes-refused : (r : Refusal) → refusal_number r ≡ bytes_refusal b (length out) → outcome (told (Err r)) out ≡ bytes_outcome b out
  bytes-refused r e = bytes_by e (refusal-some r)

  pub bytes_served : bytes_refusal b (length out) ≡ 0 → report_outcome (input_of b) out ≡ bytes_outcome b out
  unfolding bytes_outcome
  bytes_served e = sym (answered (input_of b) out (bytes_accepted b (length out) e)) ∙ rw e

  -- a length that is answered is that of a report
  pub bytes_at_most : (bytes_outcome b out).answer.length ≤ report_limit
  unfolding bytes_outcome
  bytes_at_most = go (bytes_refusal b (length out)) refl
    where
      go : (r : ℕ) → bytes_refusal b (length out) ≡ r → (unless_refused r out (delivered (report_bytes (input_of b)) out)).answer.length ≤ report_limit
      go zero e = (report_fits (input_of b) (length out) (bytes_accepted b (length out) e)).0
      go (suc r) e = omega arith

  -- the number that is answered is that of the refusal
  pub bytes-told : (bytes_outcome b out).answer.refused ≡ bytes_refusal b (length out)
  unfolding bytes_outcome
  bytes-told = go (bytes_refusal b (length out))
    where
      go : (r : ℕ) → (unless_refused r out (delivered (report_bytes (input_of b)) out)).answer.refused ≡ r
      go zero = refl
      go (suc r) = refl

  -- what is left where nothing is refused, and where something is
  pub bytes_left : bytes_refusal b (length out) ≡ 0 → bytes_outcome b out ≡ delivered (report_bytes (input_of b)) out
  unfolding bytes_outcome
  bytes_left e = rw e

  pub bytes_report : bytes_refusal b (length out) ≡ 0 → report_in (bytes_outcome b out) ≡ report_bytes (input_of b)
  bytes_report e = ap report_in (bytes_left e) ∙ take-over out (report_bytes (input_of b))

  pub bytes-kept : (bytes_refusal b (length out) ≡ 0 → ⊥) → (bytes_outcome b out).buffer ≡ out
  bytes-kept h = ap (λ (o : Outcome Told). o.buffer) (sym (bytes_by refl h))

  -- a length that is answered is of no refusal
  pub bytes-written : {n : ℕ} {o : List ℕ} → outcome (told (Ok n)) o ≡ bytes_outcome b out → bytes_refusal b (length out) ≡ 0
  bytes-written h = sym bytes-told ∙ sym (ap (λ (x : Outcome Told). x.answer.refused) h)

  pub bytes-number : (r : Refusal) {o : List ℕ} → outcome (told (Err r)) o ≡ bytes_outcome b out → refusal_number r ≡ bytes_refusal b (length out)
  bytes-number r h = ap (λ (x : Outcome Told). x.answer.refused) h ∙ bytes-told

-- ---- words of 16 bits

pub image-below : (b : List ℕ) → ((i : ℕ) → get_or b i 0 < 256) → (a : ℕ) → get_or (input_of b).image a 0 < 65536
unfolding input_of
image-below b h = numbers-below 2 (image_length b) (drop 2 b) (λ i. rw get_or-drop (h (2 + i)))

-- ---- what the code reads

-- the numbers n, count and budget
module _ (b : List ℕ) {n count budget : ℕ} (i : n ≡ image_length b) (k : count ≡ read_number b (count_at n) 2) (g : budget ≡ read_number b (budget_at n) 8) where
  pub refusal_read : (room : ℕ) → first_refusal n count budget room (eqb (length b) (length_due n count)) ≡ bytes_refusal b room
  unfolding bytes_refusal
  refusal_read room = rw (k, g, i)

  -- the words ws, the bytes between marks and budget, those behind the count up to the last, the last
  pub input_read : {ws : List ℕ} → ws ≡ numbers 2 n (drop 2 b)
      → input_from ws (take (budget_at n - marks_at n) (drop (marks_at n) b)) budget (take (clearance_at n count - breaks_at n) (drop (breaks_at n) b)) (get_or b (clearance_at n count) 0) ≡ input_of b
  unfolding input_of
  input_read w =
      let p : budget_at n - marks_at n ≡ 256 = omega arith in
      let q : clearance_at n count - breaks_at n ≡ count = omega arith in
      rw (w, p, q, k, g, i)

-- words into the front of an array
pub words_read : (b zs : List ℕ) (at : ℕ) {n : ℕ} {ws : List ℕ} → n ≤ length zs → at + 2 * n ≤ length b → ws ≡ read_words b at (take n zs) → ws ≡ numbers 2 n (drop at b)
words_read b zs at {n} h k e =
    let l : length (take n zs) ≡ n = length-take-le n zs h in
    e ∙ words_inside b at (take n zs) (rw l k) ∙ rw l
