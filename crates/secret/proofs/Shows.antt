-- What the records show: their lengths, the values that they tell apart, and equal records under one mark.
-- Assumes nothing.
use Prim.Native.Nat.{ℕ, suc, ◌+◌, ◌/◌, ◌%◌, ◌≤◌, ◌<◌}
use native.Mathlib.Omega.{arith}
use mathlib.Core.Logic.{◌↔◌}
use mathlib.Core.Path.{◌≡◌, refl, sym, ap, ap₂, ◌∙◌}
use mathlib.Core.Bool.{Bool, true, false, cond}
use mathlib.Core.List.{List, [], ◌∷◌, ◌++◌}
use lib.ListN.{length, take, drop, set, replicate, length-append}
use lib.Seq.{set_split, drop_at}
use Rattle.encoding.specs.Bytes.{over, big_endian, written}
use Rattle.encoding.proofs.Written.{written-fits, writtens_eq}
use Rattle.encoding.proofs.Numbers.{length-big_endian}
use Rattle.isa.specs.Text.{padded}
use Rattle.isa.proofs.Texts.{length-padded}
use Rattle.disasm.specs.Disassembly.{disassemble_text}
use Rattle.disasm.proofs.Texts.{disassembly_padded}
use Rattle.disasm.proofs.Whole.{field_tells}
use Rattle.control.specs.declared.counters.Counters.{Counters}
use Rattle.marks.specs.Marks.{shown}
use Rattle.isa.specs.Sizes.{text_width}
use Rattle.secret.proofs.Levels.{Twin}
use Rattle.control.specs.Address.{address_width}
use Rattle.secret.specs.Widths.{value_width, head_length, value_length, start_length, touched_length, control_length, counts_length}
use Rattle.secret.specs.Report.{address_bytes, head_record, touched_record, shown_text, value_record, start_record, count_bytes, control_bytes}
use Rattle.secret.proofs.Cut.{append_cut, number_same}

-- ---- lengths

pub length_head : (a b c d : ℕ) → length (head_record a b c d) ≡ head_length
unfolding head_record big_endian
length_head a b c d = refl

-- an address below 256 is one byte, itself
pub address_byte : (a : ℕ) → a < 256 → address_bytes a ≡ a ∷ []
unfolding big_endian
address_byte a h = let e : a % 256 ≡ a = omega arith in rw e

pub length-touched : (a : ℕ) → length (touched_record a) ≡ touched_length
unfolding big_endian
length-touched a = refl

pub length-control : (pc ir mar mark mdr : ℕ) → length (control_bytes pc ir mar mark mdr) ≡ control_length
unfolding control_bytes big_endian
length-control pc ir mar mark mdr = refl

pub length-counts : (k : Counters) → length (count_bytes k) ≡ counts_length
unfolding count_bytes big_endian
length-counts k = refl

-- the last branch matters only where the test fails
branch : {A : Type 0} (b : Bool) (a : A) {x y : A} → (b ≡ false → x ≡ y) → cond b a x ≡ cond b a y
branch true a h = refl
branch false a h = h refl

-- what stands behind equal first entries
tail_same : {x y : ℕ} {l m : List ℕ} → x ∷ l ≡ y ∷ m → l ≡ m
tail_same e = cc

module _ (hid : ℕ → Bool) where
  pub length-value : (kind : ℕ) (index : List ℕ) (m v : ℕ) {w : ℕ} → length index ≡ w → length (value_record hid kind index m v) ≡ value_length w
  unfolding value_record
  length-value kind index m v {w} h = simp (length-append, length-big_endian, h) (omega arith)

  pub length-shown : (m w : ℕ) → length (shown_text hid m w) ≡ text_width
  unfolding shown_text
  length-shown m w = go (hid m)
    where
      go : (b : Bool) → length (padded text_width (cond b [] (disassemble_text w))) ≡ text_width
      go true = length-padded text_width [] (omega arith)
      go false = disassembly_padded w

  pub length-start : (a m w : ℕ) → length (start_record hid a m w) ≡ start_length
  unfolding start_record
  length-start a m w = length-append (value_record hid 2 (address_bytes a) m w) (shown_text hid m w) ∙ rw (length-value 2 (address_bytes a) m w (length-big_endian address_width a), length-shown m w)

  -- ---- what they tell apart

  shown-below : (m v : ℕ) → v < 65536 → shown hid m v < 65536
  unfolding shown
  shown-below m v h = go (hid m)
    where
      go : (b : Bool) → cond b 0 v < 65536
      go true = omega arith
      go false = h

  pub shown-seen : (m v w : ℕ) → hid m ≡ false → shown hid m v ≡ shown hid m w → v ≡ w
  unfolding shown
  shown-seen m v w p e = rw p at e

  -- equal records of starting words have equal marks, and show equal values
  pub start_cut : (a m v n w : ℕ) → v < 65536 → w < 65536 → start_record hid a m v ≡ start_record hid a n w → (m ≡ n) × (shown hid m v ≡ shown hid n w)
  unfolding start_record value_record
  start_cut a m v n w hv hw e =
      let x = address_bytes a in
      let l = length-big_endian address_width a in
      let q = (append_cut (value_record hid 2 x m v) (value_record hid 2 x n w) (length-value 2 x m v l ∙ sym (length-value 2 x n w l)) e).0 in
      let t : m ∷ big_endian value_width (shown hid m v) ≡ n ∷ big_endian value_width (shown hid n w) = (append_cut x x refl (tail_same q)).1 in
      let r : big_endian value_width (shown hid m v) ≡ big_endian value_width (shown hid n w) = cc in
      (cc, number_same value_width (shown hid m v) (shown hid n w) (shown-below m v hv) (shown-below n w hw) r)

  -- the last 32 bytes of such a record are the word's text
  pub start-text : (a m w : ℕ) → drop (value_length address_width) (start_record hid a m w) ≡ shown_text hid m w
  unfolding start_record
  start-text a m w = drop_at (value_record hid 2 (address_bytes a) m w) (shown_text hid m w) (value_length address_width) (length-value 2 (address_bytes a) m w (length-big_endian address_width a))

  -- two open starting words have equal texts exactly when they are equal (02, Change 1)
  pub open_texts : (m v n w : ℕ) → hid m ≡ false → hid n ≡ false → v < 65536 → w < 65536 → (shown_text hid m v ≡ shown_text hid n w) ↔ (v ≡ w)
  unfolding shown_text
  open_texts m v n w p q h k = rw (p, q) (field_tells v w h k)

  -- ---- what they do not tell apart

  pub shown_same : {m v w : ℕ} → Twin hid m v w → shown hid m v ≡ shown hid m w
  unfolding shown
  shown_same {m} t = branch (hid m) 0 t.seen

  pub value_same : (kind : ℕ) (index : List ℕ) {m v w : ℕ} → Twin hid m v w → value_record hid kind index m v ≡ value_record hid kind index m w
  unfolding value_record
  value_same kind index t = rw (shown_same t)

  pub start_same : (a : ℕ) {m v w : ℕ} → Twin hid m v w → start_record hid a m v ≡ start_record hid a m w
  unfolding start_record shown_text
  start_same a {m} t = ap₂ (λ (x y : List ℕ). x ++ padded text_width y) (value_same 2 (address_bytes a) t) (branch (hid m) [] (λ p. ap disassemble_text (t.seen p)))

-- ---- as the code writes them

-- one byte that is set is one byte written
one_put : (d : List ℕ) (at k : ℕ) → at + 1 ≤ length d → set d at k ≡ written d at (k ∷ [])
unfolding over
one_put d at k h =
    let next : suc at ≡ at + 1 = omega arith in
    set_split d at k (omega (arith, h)) ∙ ap (λ (n : ℕ). take at d ++ (k ∷ drop n d)) next ∙ sym (written-fits d at (k ∷ []) h)

module _ (hid : ℕ → Bool) (d : List ℕ) (at : ℕ) {o : List ℕ} where
  -- a text, by the mark
  pub text_open : (m w : ℕ) → at + text_width ≤ length d → hid m ≡ false → o ≡ written d at (padded text_width (disassemble_text w)) → o ≡ over d at (shown_text hid m w)
  unfolding shown_text
  text_open m w h e p =
      let l : length (padded text_width (disassemble_text w)) ≡ text_width = disassembly_padded w in
      p ∙ written-fits d at (padded text_width (disassemble_text w)) (omega arith) ∙ sym (ap (λ (b : Bool). over d at (padded text_width (cond b [] (disassemble_text w)))) e)

  pub text-hidden : (m w : ℕ) → at + text_width ≤ length d → hid m ≡ true → o ≡ written d at (replicate text_width 0) → o ≡ over d at (shown_text hid m w)
  unfolding shown_text padded
  text-hidden m w h e p = p ∙ written-fits d at (replicate text_width 0) h ∙ sym (ap (λ (b : Bool). over d at (padded text_width (cond b [] (disassemble_text w)))) e)

  -- a kind, an index of w bytes, and the mark with the value s
  pub value_put : (kind w i m v : ℕ) {s : ℕ} → at + value_length w ≤ length d → s ≡ shown hid m v
      → o ≡ written (written (set d at kind) (at + 1) (big_endian w i)) (at + 1 + w) (m ∷ s / 256 % 256 ∷ s % 256 ∷ []) → o ≡ over d at (value_record hid kind (big_endian w i) m v)
  unfolding value_record big_endian
  value_put kind w i m v {s} h e p =
      p
      ∙ ap (λ (x : List ℕ). written (written x (at + 1) (big_endian w i)) (at + 1 + w) (m ∷ s / 256 % 256 ∷ s % 256 ∷ [])) (one_put d at kind (omega (arith, h)))
      ∙ writtens_eq d at ((1, kind ∷ []) ∷ (w, big_endian w i) ∷ (3, m ∷ s / 256 % 256 ∷ s % 256 ∷ []) ∷ []) (refl, (length-big_endian w i, (refl, tt))) (omega arith)
      ∙ ap (λ (x : ℕ). over d at (kind ∷ (big_endian w i ++ (m ∷ big_endian 2 x)))) e
