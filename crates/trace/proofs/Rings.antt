-- The ring of the trace: a slot that is written, and one record more.
-- Assumes nothing.
use Rattle.std.proofs.Common.{◌≡◌, ℕ, zero, suc, ◌+◌, ◌-◌, ◌*◌, ◌%◌, ◌<◌, ◌≤◌, Bool, true, false, cond, ltb, List, [], ◌∷◌, ◌++◌, length, get_or, take, drop, set, sym, refl, ap, ◌∙◌, append_assoc, append-nil, suc-add, zero-add, add-one, arith, length-append, length-drop, length-set, take-append-drop, drop_of_length-le, length-take, length-take-le, get_or-drop, take_all, drop-cons, get_or-set_other, get_or-take, get_or-set_same, take-take, drop-drop, take-suc-set, take_at, drop-set-lt, take-add, drop_at, le-ltb, lt-ltb}
use native.Mathlib.Decide.{dec_lt}
use lib.Seq.{take-append-add, drop-set-add, take-set-le, set-append_left, take-set-lt, set_split, take-append-le, drop-append-le}
use Rattle.isa.specs.Sizes.{text_width}
use Rattle.encoding.specs.Bytes.{over}
use Rattle.encoding.proofs.Written.{length_over, over_from, drop-over}
use Rattle.trace.specs.declared.records.TraceRecord.{TraceRecord}
use Rattle.trace.specs.Trace.{pushed, slots, turn, record_at, live_trace, live_lengths, short_texts, column, texts_in, addresses_in, phases_in, columns_length, Arrays, live_in, live, TraceFit, ArraysFit, trace_limit, addresses_at, phases_at}
use Rattle.trace.specs.Forms.{slot_of, next_ring, put_columns, push_into}
use Rattle.trace.proofs.Lists.{pick_true}

module _ {A : Type 0} where
  pub length-slots : (n : ℕ) (f : ℕ → A) → length (slots n f) ≡ n
  unfolding slots
  length-slots zero f = refl
  length-slots (suc n) f = ap suc (length-slots n (λ k. f (suc k)))

  slots_same : (n : ℕ) (f g : ℕ → A) → ((j : ℕ) → j < n → f j ≡ g j) → slots n f ≡ slots n g
  unfolding slots
  slots_same zero f g h = refl
  slots_same (suc n) f g h = rw (h 0 (omega arith), slots_same n (λ k. f (suc k)) (λ k. g (suc k)) (λ j b. h (suc j) (omega arith)))

  -- one slot is written, and the others are kept
  slots_set : (n k : ℕ) (f g : ℕ → A) (e : A) → k < n → g k ≡ e → ((j : ℕ) → j < n → (j ≡ k → ⊥) → g j ≡ f j) → slots n g ≡ set (slots n f) k e
  unfolding slots
  slots_set zero k f g e b same other = absurd (omega arith)
  slots_set (suc n) zero f g e b same other =
      rw (same, slots_same n (λ k. g (suc k)) (λ k. f (suc k)) (λ j h. other (suc j) (omega arith) (λ z. omega arith)))
  slots_set (suc n) (suc k) f g e b same other =
      rw (other 0 (omega arith) (λ z. omega arith), slots_set n k (λ j. f (suc j)) (λ j. g (suc j)) e (omega arith) same (λ j h z. other (suc j) (omega arith) (λ y. z (omega arith))))

  set_append_right : (xs ys : List A) (i : ℕ) (a : A) → set (xs ++ ys) (length xs + i) a ≡ xs ++ set ys i a
  set_append_right [] ys i a = simp zero-add
  set_append_right (x ∷ xs) ys i a = simp (suc-add, set_append_right xs ys i a)

  pub length-turn : (l : List A) (s : ℕ) → s ≤ length l → length (turn l s) ≡ length l
  length-turn l s h = simp (length-append, length-drop, length-take) (omega arith)

  -- the k-th slot from s on
  set-turn : (l : List A) (s k : ℕ) (a : A) → s < trace_limit → k < trace_limit → length l ≡ trace_limit → turn (set l ((s + k) % trace_limit) a) s ≡ set (turn l s) k a
  set-turn l s k a hs hk e = go (dec_lt (s + k) trace_limit)
    where
      go : Dec (s + k < trace_limit) → turn (set l ((s + k) % trace_limit) a) s ≡ set (turn l s) k a
      go (yes h) =
          let m : (s + k) % trace_limit ≡ s + k = omega arith in
          let d : k < length (drop s l) = simp length-drop (omega arith) in
          rw (m, drop-set-add, take-set-le s l (s + k) a (omega arith), set-append_left (drop s l) (take s l) k a d)
      go (no h) =
          let j = s + k - trace_limit in
          let m : (s + k) % trace_limit ≡ j = omega arith in
          let d : length (drop s l) + j ≡ k = simp length-drop (omega arith) in
          rw (m, drop-set-lt s l j a (omega arith), take-set-lt s l j a (omega arith)) (sym (set_append_right (drop s l) (take s l) j a) ∙ ap (λ (i : ℕ). set (turn l s) i a) d)

  push-room : (l : List A) (s n : ℕ) (a : A) → s < trace_limit → n < trace_limit → length l ≡ trace_limit → take (n + 1) (turn (set l ((s + n) % trace_limit) a) s) ≡ take n (turn l s) ++ (a ∷ [])
  push-room l s n a hs hn e =
      rw (set-turn l s n a hs hn e, add-one, take-suc-set (turn l s) n a (omega (arith, length-turn l s (omega arith))))

  push-full : (l : List A) (s : ℕ) (a : A) → s < trace_limit → length l ≡ trace_limit → turn (set l s a) ((s + 1) % trace_limit) ≡ drop 1 (turn l s) ++ (a ∷ [])
  push-full l s a hs e = go (dec_lt (s + 1) trace_limit)
    where
      tail : drop 1 (turn l s) ≡ drop (suc s) l ++ take s l
      tail = rw (drop-cons l s a (omega arith))

      go : Dec (s + 1 < trace_limit) → turn (set l s a) ((s + 1) % trace_limit) ≡ drop 1 (turn l s) ++ (a ∷ [])
      go (yes h) =
          let m : (s + 1) % trace_limit ≡ suc s = omega arith in
          rw (m, tail, drop-set-lt (suc s) l s a (omega arith), take-suc-set l s a (omega arith), append_assoc)
      go (no h) =
          let m : (s + 1) % trace_limit ≡ 0 = omega arith in
          let z : drop (suc s) l ≡ [] = drop_of_length-le l {i = suc s} (omega arith) in
          rw (m, tail, set_split l s a (omega arith)) (simp (z, append-nil))

  module _ (l : List A) (s n : ℕ) (x : A) (long : length l ≡ trace_limit) (hs : s < trace_limit) where
    pub live-length : n ≤ trace_limit → length (take n (turn l s)) ≡ n
    live-length h = length-take-le n (turn l s) (omega (arith, length-turn l s (omega arith)))

    -- room for one more
    pub more : n < trace_limit → take (n + 1) (turn (set l ((s + n) % trace_limit) x) s) ≡ pushed x (take n (turn l s))
    unfolding pushed
    more h =
        let e : length (take n (turn l s)) < trace_limit = omega (arith, live-length (omega arith)) in
        rw (lt-ltb _ _ e) (push-room l s n x hs h long)

    -- the oldest goes
    pub oldest_goes : n ≡ trace_limit → take n (turn (set l ((s + n) % trace_limit) x) ((s + 1) % trace_limit)) ≡ pushed x (take n (turn l s))
    unfolding pushed
    oldest_goes h =
        let e : trace_limit ≤ length (take n (turn l s)) = omega (arith, live-length (omega arith)) in
        let m : (s + n) % trace_limit ≡ s = omega arith in
        let t : take n (turn l s) ≡ turn l s = take_all n (turn l s) (omega (arith, length-turn l s (omega arith))) in
        let t' : take n (turn (set l s x) ((s + 1) % trace_limit)) ≡ turn (set l s x) ((s + 1) % trace_limit) =
        take_all n (turn (set l s x) ((s + 1) % trace_limit)) (omega (arith, length-turn (set l s x) ((s + 1) % trace_limit) (omega (arith, length-set l s x)), length-set l s x)) in
        rw (le-ltb _ _ e, m, t, t') (push-full l s x hs long)

-- ---- the text of a slot

front : (a r : List ℕ) (o n : ℕ) → o + n ≤ length a → take n (drop o (a ++ r)) ≡ take n (drop o a)
front a r o n h =
    let e : n ≤ length (drop o a) = simp length-drop (omega arith) in
    rw (drop-append-le o a r (omega arith), take-append-le n (drop o a) r e)

-- what stands before and behind the bytes that are written is kept
module _ (d b : List ℕ) (at : ℕ) (room : at + length b ≤ length d) where
  before_over : (o n : ℕ) → o + n ≤ at → take n (drop o (over d at b)) ≡ take n (drop o d)
  unfolding over
  before_over o n h =
      let l : length (take at d) ≡ at = length-take-le at d (omega arith) in
      front (take at d) (b ++ drop (at + length b) d) o n (omega (arith, l))
      ∙ sym (front (take at d) (drop at d) o n (omega (arith, l)))
      ∙ rw take-append-drop

  behind-over : (n : ℕ) → at + length b ≤ n → drop n (over d at b) ≡ drop n d
  behind-over n h =
      let m = at + length b in
      let w : m + (n - m) ≡ n = omega arith in
      ap (λ (j : ℕ). drop j (over d at b)) (sym w)
      ∙ sym (drop-drop (n - m) m (over d at b))
      ∙ ap (drop (n - m)) (drop-over d at b room)
      ∙ drop-drop (n - m) m d
      ∙ ap (λ (j : ℕ). drop j d) w

  -- the first n, where it was written among them
  among_over : (n : ℕ) → at + length b ≤ n → n ≤ length d → take n (over d at b) ≡ over (take n d) at b
  unfolding over
  among_over n h k =
      let m = at + length b in
      let l : length (take at d ++ b) ≡ m = simp (length-append, length-take-le at d (omega arith)) in
      let w : length (take at d ++ b) + (n - m) ≡ n = omega (arith, l) in
      let v : m + (n - m) ≡ n = omega arith in
      let e : drop m (take n d) ≡ take (n - m) (drop m d) =
      ap (λ (j : ℕ). drop m (take j d)) (sym v)
      ∙ ap (drop m) (take-add m (n - m) d)
      ∙ drop_at (take m d) (take (n - m) (drop m d)) m (length-take-le m d (omega arith)) in
      ap (take n) (sym (append_assoc (take at d) b (drop m d)))
      ∙ ap (λ (j : ℕ). take j (take at d ++ b ++ drop m d)) (sym w)
      ∙ take-append-add (take at d ++ b) (drop m d) (n - m)
      ∙ rw (take-take at n d (omega arith), e, append_assoc)

module _ (d b : List ℕ) (k : ℕ) (long : length d ≡ addresses_at) (full : length b ≡ text_width) (hk : k < trace_limit) where
  written : take text_width (drop (k * text_width) (over d (k * text_width) b)) ≡ b
  written = rw (over_from d (k * text_width) b (omega arith), take_at b (drop (k * text_width + length b) d) text_width full)

  kept : (j : ℕ) → j < trace_limit → (j ≡ k → ⊥) → take text_width (drop (j * text_width) (over d (k * text_width) b)) ≡ take text_width (drop (j * text_width) d)
  kept j hj ne = go (dec_lt j k)
    where
      go : Dec (j < k) → take text_width (drop (j * text_width) (over d (k * text_width) b)) ≡ take text_width (drop (j * text_width) d)
      go (yes h) = before_over d b (k * text_width) (omega arith) (j * text_width) text_width (omega arith)
      go (no h) = ap (take text_width) (behind-over d b (k * text_width) (omega arith) (j * text_width) (omega arith))

-- ---- short texts

short_snoc : (l : List ℕ) (n : ℕ) → short_texts l ≡ true → n ≤ text_width → short_texts (l ++ (n ∷ [])) ≡ true
unfolding short_texts
short_snoc [] n s h = rw (le-ltb text_width n h)
short_snoc (m ∷ l) n s h =
    let p = pick_true (ltb text_width m) (short_texts l) s in
    rw p.0 (short_snoc l n p.1 h)

short_tail : (l : List ℕ) → short_texts l ≡ true → short_texts (drop 1 l) ≡ true
unfolding short_texts
short_tail [] s = s
short_tail (m ∷ l) s = (pick_true (ltb text_width m) (short_texts l) s).1

short-pushed : (l : List ℕ) (n : ℕ) → short_texts l ≡ true → n ≤ text_width → short_texts (pushed n l) ≡ true
unfolding pushed
short-pushed l n s h = go (ltb (length l) trace_limit)
  where
    go : (b : Bool) → short_texts (cond b l (drop 1 l) ++ (n ∷ [])) ≡ true
    go true = short_snoc l n s h
    go false = short_snoc (drop 1 l) n (short_tail l s) h

-- ---- the whole push, on the five columns

-- what they are between two ticks: texts, numbers, addresses, phases, lengths
record ColumnsFit (start n : ℕ) (x i a p l : List ℕ) : Type 0 where
  count : n ≤ trace_limit
  texts : length x ≡ addresses_at
  numbers : length i ≡ trace_limit
  addresses : length a ≡ trace_limit
  phases : length p ≡ trace_limit
  lengths : length l ≡ trace_limit
  short : short_texts (live_lengths start n l) ≡ true

module _ (x i a p l : List ℕ) (start n : ℕ) (e : TraceRecord) (f : ColumnsFit start n x i a p l) (lb : length e.text.bytes ≡ text_width) (small : e.text.len ≤ text_width) where
  abbrev at : ℕ
  at = (start % trace_limit + n) % trace_limit

  abbrev before : ℕ → TraceRecord
  before = record_at x i a p l

  abbrev x' : List ℕ
  x' = over x (at * text_width) e.text.bytes

  abbrev then : ℕ → TraceRecord
  then = record_at x' (set i at e.number) (set a at e.address) (set p at e.phase) (set l at e.text.len)

  whole : slots trace_limit then ≡ set (slots trace_limit before) at e
  whole =
      slots_set trace_limit at before then e (omega arith)
      (rw (get_or-set_same i at e.number 0 (omega (arith, f.numbers)), get_or-set_same a at e.address 0 (omega (arith, f.addresses)), get_or-set_same p at e.phase 0 (omega (arith, f.phases)), get_or-set_same l at e.text.len 0 (omega (arith, f.lengths)), written x e.text.bytes at f.texts lb (omega arith)))
      (λ j hj ne.
      rw (get_or-set_other i at j e.number 0 ne, get_or-set_other a at j e.address 0 ne, get_or-set_other p at j e.phase 0 ne, get_or-set_other l at j e.text.len 0 ne, kept x e.text.bytes at f.texts lb (omega arith) j hj ne))

  abbrev Fits : ℕ → ℕ → Type 0
  Fits s k = ColumnsFit s k x' (set i at e.number) (set a at e.address) (set p at e.phase) (set l at e.text.len)

  fits : (s k : ℕ) → k ≤ trace_limit → live_lengths s k (set l at e.text.len) ≡ pushed e.text.len (live_lengths start n l) → Fits s k
  fits s k h z = record {
    count = h;
    texts = length_over x (at * text_width) e.text.bytes (omega (arith, f.texts)) ∙ f.texts;
    numbers = simp length-set f.numbers;
    addresses = simp length-set f.addresses;
    phases = simp length-set f.phases;
    lengths = simp length-set f.lengths;
    short = rw z (short-pushed (live_lengths start n l) e.text.len f.short small);
  }

  abbrev Pushes : ℕ → ℕ → Type 0
  Pushes s k = (live_trace s k x' (set i at e.number) (set a at e.address) (set p at e.phase) (set l at e.text.len) ≡ pushed e (live_trace start n x i a p l)) × Fits s k

  pushes : n < trace_limit → Pushes (start % trace_limit) (n + 1)
  unfolding live_trace live_lengths
  pushes h =
      let m : start % trace_limit % trace_limit ≡ start % trace_limit = omega arith in (
        rw (m, whole) (more (slots trace_limit before) (start % trace_limit) n e (length-slots trace_limit before) (omega arith) h),
        fits (start % trace_limit) (n + 1) (omega arith) (rw m (more l (start % trace_limit) n e.text.len f.lengths (omega arith) h)),
      )

  replaces : n ≡ trace_limit → Pushes ((start % trace_limit + 1) % trace_limit) n
  unfolding live_trace live_lengths
  replaces h =
      let m : (start % trace_limit + 1) % trace_limit % trace_limit ≡ (start % trace_limit + 1) % trace_limit = omega arith in (
        rw (m, whole) (oldest_goes (slots trace_limit before) (start % trace_limit) n e (length-slots trace_limit before) (omega arith) h),
        fits ((start % trace_limit + 1) % trace_limit) n f.count (rw m (oldest_goes l (start % trace_limit) n e.text.len f.lengths (omega arith) h)),
      )

-- ---- the columns of bytes in one array

-- a byte written into a column, and one written into another
in_column : (c : List ℕ) (at k v : ℕ) → k < trace_limit → column at (set c (at + k) v) ≡ set (column at c) k v
unfolding column
in_column c at k v h = rw (drop-set-add, take-set-lt trace_limit (drop at c) k v h)

before_column : (c : List ℕ) (at j v : ℕ) → j < at → column at (set c j v) ≡ column at c
unfolding column
before_column c at j v h = rw (drop-set-lt at c j v h)

behind-column : (c : List ℕ) (at j v : ℕ) → at + trace_limit ≤ j → column at (set c j v) ≡ column at c
unfolding column
behind-column c at j v h =
    let e : at + (j - at) ≡ j = omega arith in
    rw (← e, drop-set-add, take-set-le trace_limit (drop at c) (j - at) v (omega arith))

behind-texts : (c : List ℕ) (j v : ℕ) → addresses_at ≤ j → texts_in (set c j v) ≡ texts_in c
unfolding texts_in
behind-texts c j v h = take-set-le addresses_at c j v h

pub length-column : (c : List ℕ) (at : ℕ) → at + trace_limit ≤ length c → length (column at c) ≡ trace_limit
unfolding column
length-column c at h = length-take-le trace_limit (drop at c) (simp length-drop (omega arith))

pub length-texts : (c : List ℕ) → addresses_at ≤ length c → length (texts_in c) ≡ addresses_at
unfolding texts_in
length-texts c h = length-take-le addresses_at c h

-- what stands in a slot
pub column_at : (c : List ℕ) (at k : ℕ) → k < trace_limit → get_or (column at c) k 0 ≡ get_or c (at + k) 0
unfolding column
column_at c at k h = rw (get_or-take trace_limit (drop at c) k 0 h, get_or-drop)

pub text_at_lem : (c : List ℕ) (k : ℕ) → k < trace_limit → addresses_at ≤ length c → take text_width (drop (k * text_width) (texts_in c)) ≡ take text_width (drop (k * text_width) c)
unfolding texts_in
text_at_lem c k h long =
    let a = take addresses_at c in
    let l : length a ≡ addresses_at = length-take-le addresses_at c long in
    sym (front a (drop addresses_at c) (k * text_width) text_width (omega (arith, l))) ∙ rw take-append-drop

-- a text written among the texts
module _ (c b : List ℕ) (k : ℕ) (long : length c ≡ columns_length) (full : length b ≡ text_width) (hk : k < trace_limit) where
  column-over : (at : ℕ) → k * text_width + text_width ≤ at → column at (over c (k * text_width) b) ≡ column at c
  unfolding column
  column-over at h = ap (take trace_limit) (behind-over c b (k * text_width) (omega arith) at (omega arith))

  texts-over : texts_in (over c (k * text_width) b) ≡ over (texts_in c) (k * text_width) b
  unfolding texts_in
  texts-over = among_over c b (k * text_width) (omega arith) addresses_at (omega arith) (omega arith)

-- a record's bytes in the columns are its bytes in each
module _ (e : TraceRecord) (k : ℕ) (c : List ℕ) (long : length c ≡ columns_length) (full : length e.text.bytes ≡ text_width) (hk : k < trace_limit) where
  abbrev b : List ℕ
  b = e.text.bytes

  put_texts : texts_in (put_columns e k c) ≡ over (texts_in c) (k * text_width) b
  unfolding put_columns
  put_texts = rw (behind-texts _ (phases_at + k) _ (omega arith), behind-texts _ (addresses_at + k) _ (omega arith)) (texts-over c b k long full hk)

  put_addresses : addresses_in (put_columns e k c) ≡ set (addresses_in c) k e.address
  unfolding put_columns
  put_addresses = rw (behind-column _ addresses_at (phases_at + k) _ (omega arith), in_column _ addresses_at k _ hk, column-over c b k long full hk addresses_at (omega arith))

  put_phases : phases_in (put_columns e k c) ≡ set (phases_in c) k e.phase
  unfolding put_columns
  put_phases = rw (in_column _ phases_at k _ hk, before_column _ phases_at (addresses_at + k) _ (omega arith), column-over c b k long full hk phases_at (omega arith))

  length_put : length (put_columns e k c) ≡ columns_length
  unfolding put_columns
  length_put = simp length-set (length_over c (k * text_width) b (omega arith) ∙ long)

-- a record written into its slot is the live records with one more
pub pushed-live : (e : TraceRecord) (q : Arrays) {q' : Arrays} → q' ≡ push_into e q → length e.text.bytes ≡ text_width → e.text.len ≤ text_width → ArraysFit q
    → (live q' ≡ pushed e (live q)) × ArraysFit q'
unfolding push_into next_ring
pushed-live e q eq lb small f = rw eq (go (dec_lt q.ring.len trace_limit))
  where
    at : slot_of q.ring ≡ (q.ring.start % trace_limit + q.ring.len) % trace_limit
    at = omega arith

    hk : slot_of q.ring < trace_limit
    hk = omega arith

    cf : ColumnsFit q.ring.start q.ring.len (texts_in q.columns) q.numbers (addresses_in q.columns) (phases_in q.columns) q.lengths
    cf = record {
      count = f.count;
      texts = length-texts q.columns (omega (arith, f.columns));
      numbers = f.numbers;
      addresses = length-column q.columns addresses_at (omega (arith, f.columns));
      phases = length-column q.columns phases_at (omega (arith, f.columns));
      lengths = f.lengths;
      short = f.short;
    }

    -- the same of the columns of one array
    joined : (s n : ℕ) → Pushes (texts_in q.columns) q.numbers (addresses_in q.columns) (phases_in q.columns) q.lengths q.ring.start q.ring.len e cf lb small s n
        → (live_in s n (put_columns e (slot_of q.ring) q.columns) (set q.numbers (slot_of q.ring) e.number) (set q.lengths (slot_of q.ring) e.text.len) ≡ pushed e (live q)) × TraceFit s n (put_columns e (slot_of q.ring) q.columns) (set q.numbers (slot_of q.ring) e.number) (set q.lengths (slot_of q.ring) e.text.len)
    joined s n p = (
      rw (put_texts e (slot_of q.ring) q.columns f.columns lb hk, put_addresses e (slot_of q.ring) q.columns f.columns lb hk, put_phases e (slot_of q.ring) q.columns f.columns lb hk, at) p.0,
      record { count = p.1.count; columns = length_put e (slot_of q.ring) q.columns f.columns lb hk; numbers = rw at p.1.numbers; lengths = rw at p.1.lengths; short = rw at p.1.short },
    )

    go : Dec (q.ring.len < trace_limit) → (live (push_into e q) ≡ pushed e (live q)) × ArraysFit (push_into e q)
    go (yes h) =
        rw (lt-ltb _ _ h) (joined (q.ring.start % trace_limit) (q.ring.len + 1) (pushes (texts_in q.columns) q.numbers (addresses_in q.columns) (phases_in q.columns) q.lengths q.ring.start q.ring.len e cf lb small h))
    go (no h) =
        rw (le-ltb q.ring.len trace_limit (omega arith)) (joined ((q.ring.start % trace_limit + 1) % trace_limit) q.ring.len (replaces (texts_in q.columns) q.numbers (addresses_in q.columns) (phases_in q.columns) q.lengths q.ring.start q.ring.len e cf lb small (omega (arith, f.count))))
