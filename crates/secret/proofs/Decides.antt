-- The first 1,038 bytes decide every answer of the report program (`specs/Program.antt`): the longest input that is served has 1,037, and one more shows that an input is longer than its counts say.
-- Assumes nothing.
use Prim.Native.Nat.{ℕ, zero, suc, ◌+◌, ◌-◌, ◌≤◌, ◌<◌}
use native.Mathlib.Omega.{arith}
use mathlib.Core.Path.{◌≡◌, refl, sym, ap, ◌∙◌}
use mathlib.Core.Bool.{Bool, true, false, cond}
use mathlib.Core.List.{List}
use borrow.Author.Tests.{ltb-true, ltb-false, le-leb, lt-ltb, ne_eqb}
use lib.Dec.{ltb}
use lib.ListN.{length, take, drop}
use lib.Seq.{length-take-le, take_all, take-add, drop_at, get_or-take}
use Rattle.encoding.specs.Bytes.{number, read_number}
use Rattle.secret.specs.Widths.{report_limit}
use Rattle.secret.specs.Program.{input_length, image_length, budget_at, count_at, length_due, budget_in, break_count, first_refusal, bytes_refusal, bytes_outcome}
use Rattle.secret.proofs.Programs.{bytes-passed, bytes_end, bytes_by}

-- ---- what lies in the first k bytes is read there

number-front : (w k : ℕ) (l : List ℕ) → w ≤ k → number w (take k l) ≡ number w l
unfolding number
number-front zero k l h = refl
number-front (suc w) k l h = rw (number-front w k l (omega arith), get_or-take k l w 0 (omega arith))

module _ (d : List ℕ) (k : ℕ) (long : k ≤ length d) where
  drop-front : (at : ℕ) → at ≤ k → drop at (take k d) ≡ take (k - at) (drop at d)
  drop-front at h =
      let e : k ≡ at + (k - at) = omega arith in
      ap (λ (j : ℕ). drop at (take j d)) e ∙ rw take-add (drop_at (take at d) (take (k - at) (drop at d)) at (length-take-le at d (omega arith)))

  read_front : (at w : ℕ) → at + w ≤ k → read_number (take k d) at w ≡ read_number d at w
  unfolding read_number
  read_front at w h =
      let l : length (take k d) ≡ k = length-take-le k d long in
      rw (l, le-leb (at + w) k h, le-leb (at + w) (length d) (omega arith), drop-front at (omega arith), number-front w (k - at) (drop at d) (omega arith))

-- ---- the refusal

-- too long an image is refused first
long_first : {words : ℕ} (count budget room : ℕ) (whole : Bool) → 256 < words → first_refusal words count budget room whole ≡ 1
unfolding first_refusal
long_first {words} count budget room whole h = rw (lt-ltb 256 words h)

-- the last test counts only where there are few breakpoints
last_only : (words count budget room : ℕ) (v w : Bool) → (count ≤ 256 → v ≡ w) → first_refusal words count budget room v ≡ first_refusal words count budget room w
unfolding first_refusal
last_only words count budget room v w h = go (ltb 256 count) refl
  where
    chain : Bool → Bool → ℕ
    chain t x = cond (ltb 256 words) 1 (cond t 3 (cond (ltb 1000000 budget) 4 (cond (ltb room report_limit) 5 (cond x 0 6))))

    go : (t : Bool) → ltb 256 count ≡ t → chain t v ≡ chain t w
    go true e = refl
    go false e = ap (chain false) (h (ltb-false 256 count e))

module _ (b : List ℕ) (room : ℕ) (long : input_length ≤ length b) where
  abbrev front : List ℕ
  front = take input_length b

  same_count : image_length front ≡ image_length b
  same_count = read_front b input_length long 0 2 (omega arith)

  refusal-front : bytes_refusal front room ≡ bytes_refusal b room
  unfolding bytes_refusal
  refusal-front = go (ltb 256 (image_length b)) refl
    where
      go : (t : Bool) → ltb 256 (image_length b) ≡ t → bytes_refusal front room ≡ bytes_refusal b room
      go true e =
          let h : 256 < image_length b = ltb-true 256 (image_length b) e in
          rw same_count (long_first _ _ _ _ h ∙ sym (long_first _ _ _ _ h))
      go false e =
          let n = image_length b in
          let h : n ≤ 256 = ltb-false 256 n e in
          let l : length front ≡ input_length = length-take-le input_length b long in
          rw (same_count, read_front b input_length long (count_at n) 2 (omega arith), read_front b input_length long (budget_at n) 8 (omega arith))
          (last_only n (break_count b) (budget_in b) room _ _
          (λ k. rw (l, ne_eqb input_length (length_due n (break_count b)) (λ p. omega arith), ne_eqb (length b) (length_due n (break_count b)) (λ p. omega arith))))

  -- and so long an input is refused
  never_whole : bytes_refusal b room ≡ 0 → ⊥
  never_whole e =
      let p = bytes-passed b room e in
      let s = p.short in
      let f = p.few in
      let l = bytes_end b room e in
      omega arith

pub first_decide : (b out : List ℕ) → bytes_outcome (take input_length b) out ≡ bytes_outcome b out
first_decide b out = go (ltb (length b) input_length) refl
  where
    go : (t : Bool) → ltb (length b) input_length ≡ t → bytes_outcome (take input_length b) out ≡ bytes_outcome b out
    go true e =
        let h : length b < input_length = ltb-true (length b) input_length e in
        ap (λ (x : List ℕ). bytes_outcome x out) (take_all input_length b (omega arith))
    go false e =
        let h : input_length ≤ length b = ltb-false (length b) input_length e in
        sym (bytes_by (take input_length b) out (sym (refusal-front b (length out) h)) (never_whole b (length out) h))
        ∙ bytes_by b out refl (never_whole b (length out) h)
