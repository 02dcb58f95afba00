-- The records of the input, kinds 09, 02 and 03: equal ones come from equal public inputs.
-- Assumes nothing.
use Prim.Native.Nat.{ℕ, ◌<◌}
use native.Mathlib.Omega.{arith}
use mathlib.Core.Path.{◌≡◌, refl, sym, ap, ◌∙◌}
use mathlib.Core.Bool.{Bool}
use mathlib.Core.List.{List, [], ◌∷◌, ◌++◌}
use lib.ListN.{length, get_or}
use lib.Seq.{ext_get_or}
use Rattle.guard.specs.Input.{Input}
use Rattle.encoding.specs.Bytes.{big_endian, each_from}
use Rattle.marks.specs.Marks.{shown}
use Rattle.isa.specs.Sizes.{memory_words}
use Rattle.secret.specs.Widths.{break_length, start_length, count_width, number_width}
use Rattle.secret.specs.Report.{head_record, head_of, break_record, each_record, start_record, start_records}
use Rattle.secret.proofs.Accepts.{Accepted}
use Rattle.secret.proofs.Cut.{append_cut, number_cut, row_cut}
use Rattle.secret.proofs.Shows.{length_head, length-start, start_cut}

-- the parts of the head that two inputs have in common
pub record SameHead (i j : Input) : Type 0 where
  pub image : length i.image ≡ length j.image
  pub budget : i.budget ≡ j.budget
  pub breaks : length i.breaks ≡ length j.breaks
  pub clearance : i.clearance ≡ j.clearance

module _ (i j : Input) (A : Accepted i) (B : Accepted j) where
  head_numbers : head_of i ≡ head_of j → SameHead i j
  unfolding head_record
  head_numbers p =
      let rest : Input → List ℕ = λ (k : Input). big_endian count_width (length k.breaks) ++ (k.clearance ∷ []) in
      let q : big_endian count_width (length i.image) ++ (big_endian number_width i.budget ++ rest i) ≡ big_endian count_width (length j.image) ++ (big_endian number_width j.budget ++ rest j) = cc in
      let r = number_cut count_width (length i.image) (length j.image) (omega (arith, A.short)) (omega (arith, B.short)) q in
      let s = number_cut number_width i.budget j.budget (omega (arith, A.allowed)) (omega (arith, B.allowed)) r.1 in
      let t = number_cut count_width (length i.breaks) (length j.breaks) (omega (arith, A.few)) (omega (arith, B.few)) s.1 in
      record { image = r.0; budget = s.0; breaks = t.0; clearance = only t.1 }
    where
      only : {x y : ℕ} → ◌≡◌ {A = List ℕ} (x ∷ []) (y ∷ []) → x ≡ y
      only e = cc

  -- the head
  pub head_cut : {x y : List ℕ} → head_of i ++ x ≡ head_of j ++ y → SameHead i j × (x ≡ y)
  head_cut p =
      let q = append_cut (head_of i) (head_of j) (length_head (length i.image) i.budget (length i.breaks) i.clearance ∙ sym (length_head (length j.image) j.budget (length j.breaks) j.clearance)) p in
      (head_numbers q.0, q.1)

-- the breakpoints
pub breaks_cut : (l m x y : List ℕ) → length l ≡ length m → each_record break_record l ++ x ≡ each_record break_record m ++ y → l ≡ m
unfolding each_record
breaks_cut l m x y h p =
    let f : ℕ → List ℕ = λ i. break_record (get_or l i 0) in
    let g : ℕ → List ℕ = λ i. break_record (get_or m i 0) in
    let q : each_from f 0 (length l) ++ x ≡ each_from g 0 (length l) ++ y = p ∙ ap (λ (n : ℕ). each_from g 0 n ++ y) (sym h) in
    let r = row_cut f g break_length (λ i. refl) (λ i. refl) (length l) q in
    ext_get_or 0 l m h (λ i b. entry i (r.0 i b))
  where
    entry : (i : ℕ) → break_record (get_or l i 0) ≡ break_record (get_or m i 0) → get_or l i 0 ≡ get_or m i 0
    entry i e = cc

-- the starting words: equal marks, and equal values shown
module _ (hid : ℕ → Bool) where
  pub starts_cut : (v k w l : List ℕ) {x y : List ℕ} → ((a : ℕ) → get_or v a 0 < 65536) → ((a : ℕ) → get_or w a 0 < 65536)
      → start_records hid v k ++ x ≡ start_records hid w l ++ y
      → ((a : ℕ) → a < memory_words → (get_or k a 0 ≡ get_or l a 0) × (shown hid (get_or k a 0) (get_or v a 0) ≡ shown hid (get_or l a 0) (get_or w a 0))) × (x ≡ y)
  unfolding start_records
  starts_cut v k w l hv hw e =
      let f : ℕ → List ℕ = λ a. start_record hid a (get_or k a 0) (get_or v a 0) in
      let g : ℕ → List ℕ = λ a. start_record hid a (get_or l a 0) (get_or w a 0) in
      let r = row_cut f g start_length (λ a. length-start hid a (get_or k a 0) (get_or v a 0)) (λ a. length-start hid a (get_or l a 0) (get_or w a 0)) memory_words e in
      (λ a h. start_cut hid a (get_or k a 0) (get_or v a 0) (get_or l a 0) (get_or w a 0) (hv a) (hw a) (r.0 a h), r.1)
